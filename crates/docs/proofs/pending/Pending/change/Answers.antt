use Rattle.docs.proofs.Std.{List, ◌≡◌, ◌≤◌, ◌-◌, ◌+◌, ◌<◌, ◌^◌, ◌∙◌, ℕ, length, min, inl, inr, ⊎_elim, refl, sym, ap, subst, arith, Option, Some, None, Err, MatchOption, chars, true_from_ne_false, common_steps}
use Rattle.docs.proofs.Common.{Edit, IsText, edit, length-edit, TooLarge, Memory, LeadsTo, IsApart, joined, next_pending, number_or, pending_number}
use Rattle.docs.proofs.Edits.{next_later, next_positive, same_edit}
use Rattle.docs.proofs.JoinedEdits.{joined_leads, small_edit}
use Rattle.docs.proofs.Refusals.{IsText-changed, large_edit, passed_on, text_made}
use Rattle.docs.proofs.pending.Pending.change.Goals as goal

-- of the pending edit, how it leads, and that its number is no earlier one
leads_alone : (o : Option Edit) (none : Type 0) (leads later positive : Edit → Type 0) → MatchOption o none (λ e. leads e × later e × positive e) → MatchOption o none leads
leads_alone None none leads later positive h = h
leads_alone (Some e) none leads later positive h = h.0

later_number : (n : ℕ) (o : Option Edit) (none : Type 0) (leads positive : Edit → Type 0) → MatchOption o none (λ e. leads e × (n ≤ e.number) × positive e) → n ≤ number_or n o
later_number n None none leads positive h = omega arith
later_number n (Some e) none leads positive h = h.1

-- an edit that waits has small numbers
small_waiting : (o : Option Edit) (was now : List ℕ) (rest : ℕ) → MatchOption o (now ≡ was) (λ e. LeadsTo was e now) → length was ≤ 1_048_576 → length now ≤ 1_048_576 → rest < 2 ^ 62
    → MatchOption o Unit (λ e. e.at + e.removed + e.inserted + rest < 2 ^ 63)
small_waiting None was now rest leads short small few = tt
small_waiting (Some e) was now rest leads short small few = omega (arith, small_edit was now e leads short small, few)

-- the number is that of the later one
joined_number : (o : Option Edit) (e : Edit) → (joined o e).number ≡ e.number
joined_number None e = refl
joined_number (Some first) e = refl

pub joined-requires : goal.joined-requires
joined-requires c =
    let p = c.in_ok-settle_apart.ensures.pending in
    let mid = c.settle_apart.new.self in
    let a = c.span-from.result.0 in
    let b = c.span-from.result.1 in
    let change = c.in_ok-change.change in
    let few : change.at + change.removed + change.inserted < 2 ^ 62 =
    omega (
      arith,
      ap (λ (e : Edit). e.at) c.in_ok-change.ensures.made,
      ap (λ (e : Edit). e.removed) c.in_ok-change.ensures.made,
      c.in_ok-change.ensures.few,
      c.span-from.ensures.ordered,
      c.span-from.ensures.in_range,
      ap length c.in_ok-settle_apart.ensures.text,
      c.put.ensures.short,
    ) in
    record { small = small_waiting mid.edit p.was mid.doc.text _ (leads_alone mid.edit _ _ _ _ p.leads) p.short c.put.ensures.short few }

pub returns-in_err-change-clause-memory : goal.returns-in_err-change-clause-memory
returns-in_err-change-clause-memory c refused none =
    let s = chars c.args.new.now in
    let old = c.args.self.now.doc in
    let same = ap (λ t. edit t c.span-from.result.0 c.span-from.result.1 s) c.in_ok-settle_apart.ensures.text ∙ sym (c.span-from.ensures.edits s) in
    let by = large_edit c.put.result
    (IsText-changed old.unit old.text c.args.range c.args.new.now (subst IsText c.in_ok-settle_apart.ensures.text c.put.ensures.characters) c.utf8.new)
    (sym same) c.put.ensures.too_large in
    let large = passed_on c.put.result _ by c.from_residual-in_err-change.result c.in_err-change.field-0.0 c.in_err-change.was c.from_residual-in_err-change.ensures.1 in
    true_from_ne_false _ (λ f. let both : Err TooLarge ≡ Err Memory = sym (large.1 f) ∙ refused in let g : ⊥ = cc in g)

pub returns-clause-text : goal.returns-clause-text
returns-clause-text c =
    let s = chars c.args.new.now in
    let old = c.args.self.now.doc in
    let same = ap (λ t. edit t c.span-from.result.0 c.span-from.result.1 s) c.in_ok-settle_apart.ensures.text ∙ sym (c.span-from.ensures.edits s) in
    let by = large_edit c.put.result
    (IsText-changed old.unit old.text c.args.range c.args.new.now (subst IsText c.in_ok-settle_apart.ensures.text c.put.ensures.characters) c.utf8.new)
    (sym same) c.put.ensures.too_large in
    (c.in_ok-change.ensures.edited ∙ same, true_from_ne_false _ (text_made c.put.result _ by c.in_ok-change.change c.in_ok-change.was))

pub returns-clause-pending : goal.returns-clause-pending
returns-clause-pending c =
    let mid = c.settle_apart.new.self in
    let p = c.in_ok-settle_apart.ensures.pending in
    let change = c.in_ok-change.change in
    let named = ap (λ (e : Edit). e.number) c.in_ok-change.ensures.made in
    let leads = joined_leads mid.edit change p.was mid.doc.text _ (leads_alone mid.edit _ _ _ _ p.leads) c.in_ok-change.ensures.leads in
    let later = later_number mid.doc.parse.number mid.edit _ _ _ p.leads in
    let number = c.number.result in
    let next = next_later number c.saturating_add-number.result c.saturating_add-number.ensures (omega (arith, c.number.type_inv)) in
    let positive = next_positive number c.saturating_add-number.result c.saturating_add-number.ensures in
    let same = ap (λ (e : Edit). e.number) c.joined.ensures ∙ joined_number mid.edit change in
    record {
      was = p.was;
      short = p.short;
      current = p.current;
      leads = (
        subst (λ (e : Edit). LeadsTo p.was e c.put.new.text) (sym c.joined.ensures) leads,
        omega (arith, later, next, c.number.ensures, same, named),
        omega (arith, positive, same, named),
      );
    }

pub returns-clause-waits : goal.returns-clause-waits
returns-clause-waits c =
    let s = chars c.args.new.now in
    let old = c.args.self.now in
    let a = c.span-from.result.0 in
    let mid = c.settle_apart.new.self in
    let number : c.saturating_add-number.result ≡ min (pending_number old + 1) 18_446_744_073_709_551_615 =
    c.saturating_add-number.ensures ∙ ap (λ n. min (n + 1) 18_446_744_073_709_551_615) (c.number.ensures ∙ c.in_ok-settle_apart.ensures.number) in
    let change = c.in_ok-change.ensures.made
    ∙ same_edit old.doc.unit old.doc.text c.args.range s c.span-from.result _ c.saturating_add-number.result _ c.span-from.ensures.is refl number in
    let next : Edit = next_pending old c.args.range s in
    let first : next.at ≡ a = sym (ap (λ (e : Edit). e.at) change) ∙ ap (λ (e : Edit). e.at) c.in_ok-change.ensures.made in
    let gone : next.removed ≡ c.span-from.result.1 - a = sym (ap (λ (e : Edit). e.removed) change) ∙ ap (λ (e : Edit). e.removed) c.in_ok-change.ensures.made in
    let end : next.at + next.removed ≡ c.span-from.result.1 = omega (arith, c.span-from.ensures.ordered, first, gone) in
    let joins : (o : Option Edit) → mid.edit ≡ o → c.joined.result ≡ joined o next =
    λ o is. c.joined.ensures ∙ (ap (λ o. joined o c.in_ok-change.change) is ∙ ap (joined o) change) in
    ⊎_elim
    (λ stays. inl (stays.0, ap Some (joins old.edit stays.1)))
    (λ apart. inr (
      subst (λ n. IsApart old n (next.at + next.removed)) (sym first) (subst (IsApart old a) (sym end) apart.0),
      apart.1.0,
      ap Some (joins None apart.1.1),
    ))
    c.in_ok-settle_apart.ensures.waits
