-- Sessions that are cut short: a prefix of the answers of a run is written.
use Rattle.server.proofs.Std.{ℕ, List, [], ◌++◌, refl, ap, sym, subst, ◌∙◌, append_assoc, ◌≡◌, Option, Some, None, Result, Ok, Err, OnErr, Appends, Keeps}
use Rattle.server.proofs.Common.{State, bytes_of, AppendsPrefix, Served, ServedInPart, HasServed, CanServe, IsCutShort, RunFault, some_run}
use Rattle.std.proofs.Common.{append-nil}
use Rattle.server.proofs.Bytes.{appends_kept, prefix_after, prefix_all, prefix_nothing, prefix_of_more}
use Rattle.server.proofs.Runs.{run_then, run_on, bytes_then}

pub part_nothing : (o : Option (List ℕ)) (a : State) → CanServe a → (cs : List (List ℕ)) → ServedInPart o o a cs
part_nothing o a can cs = let r = some_run a can cs in record { answers = r.0; stop = r.1; after = r.2; run = r.3; written = prefix_nothing o (bytes_of r.0) }

pub part_on : (old new : Option (List ℕ)) (a : State) → CanServe a → (cs ds : List (List ℕ)) → ServedInPart old new a cs → ServedInPart old new a (cs ++ ds)
part_on old new a can cs ds p =
    let r = run_on a p.after can cs ds p.answers p.stop p.run in
    record {
      answers = p.answers ++ r.0;
      stop = r.1;
      after = r.2;
      run = r.3;
      written = subst (AppendsPrefix old new) (sym (bytes_then p.answers r.0)) (prefix_of_more old new (bytes_of p.answers) (bytes_of r.0) p.written);
    }

pub part_then : (old mid new : Option (List ℕ)) (a b : State) (cs ds : List (List ℕ)) → Served old mid a cs None b → ServedInPart mid new b ds → ServedInPart old new a (cs ++ ds)
part_then old mid new a b cs ds s p = record {
  answers = s.answers ++ p.answers;
  stop = p.stop;
  after = p.after;
  run = run_then a b p.after cs ds s.answers p.answers p.stop s.run p.run;
  written = subst (AppendsPrefix old new) (sym (bytes_then s.answers p.answers)) (prefix_after old mid new (bytes_of s.answers) (bytes_of p.answers) s.written p.written);
}

pub part_kept : (old mid new : Option (List ℕ)) (a c : State) (cs : List (List ℕ)) (stop : Option ℕ) → Served old mid a cs stop c → Keeps mid new → ServedInPart old new a cs
part_kept old mid new a c cs stop s k =
    record { answers = s.answers; stop = stop; after = c; run = s.run; written = prefix_all old new (bytes_of s.answers) (appends_kept old mid new (bytes_of s.answers) s.written k) }

-- answering that was cut short
pub cut_off : (old new : Option (List ℕ)) (failures : ℕ) (before : State) (contents : List (List ℕ)) (result : Result (Option ℕ) RunFault) (after : State) (e : RunFault)
    → result ≡ Err e → IsCutShort e failures → ServedInPart old new before contents → HasServed old new failures before contents result after
cut_off old new failures before contents result after e same cut part =
    subst (λ (r : Result (Option ℕ) RunFault). HasServed old new failures before contents r after) (sym same) (record { written = tt; part = part; device = cut })

-- what was passed on was written
pub served_kept : (old mid new : Option (List ℕ)) (a c : State) (cs : List (List ℕ)) (stop : Option ℕ) → Served old mid a cs stop c → Keeps mid new → Served old new a cs stop c
served_kept old mid new a c cs stop s k = record { answers = s.answers; run = s.run; written = appends_kept old mid new (bytes_of s.answers) s.written k }
