-- Sessions that are cut short: a prefix of the messages on the first contents is written.
use Rattle.ide.proofs.Std.{◌≡◌, ℕ, List, [], ◌++◌, refl, ap, sym, subst, ◌∙◌, append-nil, append_assoc, map-append, Option, None, Result, Ok, Err, Keeps}
use Rattle.ide.proofs.Common.{Ident, IdeState, bytes_of, cancelled_by, cancels, contents_of, Serves, AppendsPrefix, Served, ServedInPart, HasServed, IsCutShort, RunFault}
use Rattle.server.proofs.Bytes.{appends_kept, prefix_after, prefix_all, prefix_nothing}
use Rattle.ide.proofs.Runs.{bytes_then, contents_then, run_more, run_then, served_more, served_then}

pub part_nothing : (o : Option (List ℕ)) (a : IdeState) (cs : List (List ℕ)) (later : List (Option Ident)) → ServedInPart o o a cs later
part_nothing o a cs later = record {
  events = [];
  left = cs;
  messages = [];
  stop = None;
  after = a;
  parts = refl;
  run = (refl, refl, refl);
  written = prefix_nothing o [];
}

pub part_on : (old new : Option (List ℕ)) (a : IdeState) (cs ds : List (List ℕ)) (later : List (Option Ident)) → ServedInPart old new a cs (cancels ds ++ later)
    → ServedInPart old new a (cs ++ ds) later
part_on old new a cs ds later p = record {
  events = p.events;
  left = p.left ++ ds;
  messages = p.messages;
  stop = p.stop;
  after = p.after;
  parts = ap (λ l. l ++ ds) p.parts ∙ append_assoc (contents_of p.events) p.left ds;
  run = subst (λ l. Serves a p.events l p.messages p.stop p.after)
      (sym (append_assoc (cancels p.left) (cancels ds) later) ∙ ap (λ l. l ++ later) (sym (map-append cancelled_by p.left ds))) p.run;
  written = p.written;
}

-- more that is cancelled later
pub part_later : (old new : Option (List ℕ)) (a : IdeState) (cs : List (List ℕ)) (later more : List (Option Ident)) → ServedInPart old new a cs later
    → ServedInPart old new a cs (later ++ more)
part_later old new a cs later more p = record {
  events = p.events;
  left = p.left;
  messages = p.messages;
  stop = p.stop;
  after = p.after;
  parts = p.parts;
  run = subst (λ l. Serves a p.events l p.messages p.stop p.after) (append_assoc (cancels p.left) later more)
      (run_more a p.after p.events (cancels p.left ++ later) more p.messages p.stop p.run);
  written = p.written;
}

pub part_then : (old mid new : Option (List ℕ)) (a b : IdeState) (cs ds : List (List ℕ)) (later : List (Option Ident)) → Served old mid a cs (cancels ds ++ later) None b
    → ServedInPart mid new b ds later → ServedInPart old new a (cs ++ ds) later
part_then old mid new a b cs ds later s p = record {
  events = s.events ++ p.events;
  left = p.left;
  messages = s.messages ++ p.messages;
  stop = p.stop;
  after = p.after;
  parts = ap (λ l. cs ++ l) p.parts ∙ sym (append_assoc cs (contents_of p.events) p.left)
      ∙ ap (λ l. l ++ p.left) (ap (λ l. l ++ contents_of p.events) (sym s.parts) ∙ sym (contents_then s.events p.events));
  run = run_then a b p.after s.events p.events (cancels p.left ++ later) s.messages p.messages p.stop
      (subst (λ l. Serves a s.events l s.messages None b)
      (ap (λ l. cancels l ++ later) p.parts ∙ ap (λ l. l ++ later) (map-append cancelled_by (contents_of p.events) p.left)
      ∙ append_assoc (cancels (contents_of p.events)) (cancels p.left) later) s.run) p.run;
  written = subst (AppendsPrefix old new) (sym (bytes_then s.messages p.messages)) (prefix_after old mid new (bytes_of s.messages) (bytes_of p.messages) s.written p.written);
}

pub part_kept : (old mid new : Option (List ℕ)) (a c : IdeState) (cs : List (List ℕ)) (later : List (Option Ident)) (stop : Option ℕ) → Served old mid a cs later stop c
    → Keeps mid new → ServedInPart old new a cs later
part_kept old mid new a c cs later stop s k = record {
  events = s.events;
  left = [];
  messages = s.messages;
  stop = stop;
  after = c;
  parts = sym (append-nil (contents_of s.events) ∙ s.parts);
  run = s.run;
  written = prefix_all old new (bytes_of s.messages) (appends_kept old mid new (bytes_of s.messages) s.written k);
}

-- answering that was cut short
pub cut_off : (old new : Option (List ℕ)) (failures : ℕ) (before : IdeState) (contents : List (List ℕ)) (later : List (Option Ident)) (result : Result (Option ℕ) RunFault)
    (after : IdeState) (e : RunFault) → result ≡ Err e → IsCutShort e failures → ServedInPart old new before contents later
    → HasServed old new failures before contents later result after
cut_off old new failures before contents later result after e same cut part =
    subst (λ (r : Result (Option ℕ) RunFault). HasServed old new failures before contents later r after) (sym same) (record { written = tt; part = part; device = cut })

-- what was passed on was written
pub served_kept : (old mid new : Option (List ℕ)) (a c : IdeState) (cs : List (List ℕ)) (later : List (Option Ident)) (stop : Option ℕ) → Served old mid a cs later stop c
    → Keeps mid new → Served old new a cs later stop c
served_kept old mid new a c cs later stop s k = record {
  events = s.events;
  messages = s.messages;
  parts = s.parts;
  run = s.run;
  written = appends_kept old mid new (bytes_of s.messages) s.written k;
}

-- what comes of some contents, after a part with none
pub looked_then : (old mid new : Option (List ℕ)) (failures : ℕ) (a b : IdeState) (cs : List (List ℕ)) (result : Result (Option ℕ) RunFault) (c : IdeState)
    → Served old mid a [] [] None b → HasServed mid new failures b cs [] result c → HasServed old new failures a cs [] result c
looked_then old mid new failures a b cs (Ok stop) c s h = record {
  written = served_then old mid new a b c [] cs [] stop (served_more old mid a b [] [] (cancels cs ++ []) None s) h.written;
  part = tt;
  device = h.device;
}
looked_then old mid new failures a b cs (Err e) c s h = record {
  written = tt;
  part = part_then old mid new a b [] cs [] (served_more old mid a b [] [] (cancels cs ++ []) None s) h.part;
  device = h.device;
}
