use Rattle.server.proofs.Std.{◌≡◌, refl, sym, ap, subst, ◌∙◌, Option, Some, IsSome, IfSome, option_map, option_copied_mut, btree_map_updates_text}
use Rattle.server.proofs.Common.{Entry, is_lost, documents_of, entry_view, AreCurrent, IsEntryOf}
use Rattle.rpc.specs.Loss.TheVariants.{Memory}
use Rattle.std.specs.FinMap as map
use Rattle.server.proofs.MapEntries.{get_held, insert_held, insert_current}
use Rattle.server.proofs.documents.Documents.take.Goals.{in-Some, in-None}
use Rattle.server.proofs.documents.Documents.take.Goals as goal

pub returns-clause-documents : goal.returns-clause-documents
returns-clause-documents c = elim c.match-get_mut.branch [
  | in-Some w ↦
      let entries = c.self.inside.by_uri.entries in
      let uri = c.args.uri.now in
      let found = ap option_copied_mut (sym w.in-Some.is) ∙ c.get_mut.ensures.value in
      let updates = (c.get_mut.follows.holds w.replace.new.dest).3 (subst IsSome found refl) in
      subst (λ (r : Option (Entry)). IfSome r (λ _. documents_of c.match-get_mut.self-inside.by_uri.entries ≡ map.insert c.args.self.now.documents uri (is_lost Memory))) (sym w.result-is)
      (ap (λ s. documents_of s.by_uri.entries) w.self-inside-is
      ∙ (insert_held entries (c.get_mut.follows.lender w.replace.new.dest).entries uri w.replace.new.dest
      (btree_map_updates_text uri c.self.inside.by_uri (c.get_mut.follows.lender w.replace.new.dest) (Some w.replace.new.dest) updates)
      ∙ (ap (λ e. map.insert (documents_of entries) uri (entry_view e)) w.replace.ensures.after
      ∙ ap (λ h. map.insert h.documents uri (is_lost Memory)) c.self.view_is)))
  | in-None w ↦ subst (λ (r : Option (Entry)). IfSome r
      (λ _. documents_of c.match-get_mut.self-inside.by_uri.entries ≡ map.insert c.args.self.now.documents c.args.uri.now (is_lost Memory))) (sym w.result-is) tt
]

pub invariant_of-self : goal.invariant_of-self
invariant_of-self c = elim c.match-get_mut.branch [
  | in-Some w ↦
      let uri = c.args.uri.now in
      let found = ap option_copied_mut (sym w.in-Some.is) ∙ c.get_mut.ensures.value in
      let updates = (c.get_mut.follows.holds w.replace.new.dest).3 (subst IsSome found refl) in
      let fits : IsEntryOf c.self.inside.language w.replace.new.dest = subst (λ e. IsEntryOf c.self.inside.language e) (sym w.replace.ensures.after) tt in
      subst (λ s. AreCurrent s.language s.by_uri.entries) (sym w.self-inside-is) (insert_current c.self.inside.language c.self.inside.by_uri.entries
      (c.get_mut.follows.lender w.replace.new.dest).entries uri w.replace.new.dest
      (btree_map_updates_text uri c.self.inside.by_uri (c.get_mut.follows.lender w.replace.new.dest) (Some w.replace.new.dest) updates) c.self.invariant fits)
  | in-None w ↦ subst (λ s. AreCurrent s.language s.by_uri.entries) (sym w.self-inside-is)
      (subst (λ m. AreCurrent c.self.inside.language m.entries) (sym c.get_mut.follows.holds-at-none) c.self.invariant)
]

pub returns-clause-is : goal.returns-clause-is
returns-clause-is c =
    let uri = c.args.uri.now in
    let held = ap (λ h. map.get h.documents uri) (sym c.self.view_is) ∙ get_held c.self.inside.by_uri.entries uri in
    elim c.match-get_mut.branch [
      | in-Some w ↦
          let found = ap option_copied_mut (sym w.in-Some.is) ∙ c.get_mut.ensures.value in
          ap (option_map (entry_view)) w.result-is ∙ (ap (λ e. Some (entry_view e)) w.replace.ensures.value ∙ (ap (option_map (entry_view)) found ∙ sym held))
      | in-None w ↦
          let found = ap option_copied_mut (sym w.in-None.is) ∙ c.get_mut.ensures.value in
          ap (option_map (entry_view)) w.result-is ∙ (ap (option_map (entry_view)) found ∙ sym held)
    ]

pub returns-clause-current : goal.returns-clause-current
returns-clause-current c = elim c.match-get_mut.branch [
  | in-Some w ↦
      let found = ap option_copied_mut (sym w.in-Some.is) ∙ c.get_mut.ensures.value in
      subst (λ (r : Option (Entry)). IfSome r (IsEntryOf c.args.self.now.language)) (sym w.result-is)
      (subst (λ e. IsEntryOf c.args.self.now.language e) (sym w.replace.ensures.value)
      (subst (λ h. IsEntryOf h.language w.in-Some.held.now) c.self.view_is (c.self.invariant c.args.uri.now w.in-Some.held.now (sym found))))
  | in-None w ↦ subst (λ (r : Option (Entry)). IfSome r (IsEntryOf c.args.self.now.language)) (sym w.result-is) tt
]

pub returns-clause-nothing : goal.returns-clause-nothing
returns-clause-nothing c = elim c.match-get_mut.branch [
  | in-Some w ↦ λ none. let f : ⊥ = (let some = sym none ∙ w.result-is in cc) in absurd f
  | in-None w ↦ λ none.
      ap (λ s. documents_of s.by_uri.entries) w.self-inside-is ∙ (ap (λ m. documents_of m.entries) c.get_mut.follows.holds-at-none ∙ ap (λ h. h.documents) c.self.view_is)
]
