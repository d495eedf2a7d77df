-- What `a.and(Ok(x))` is, from what is known of a.
use Rattle.grammar_file.proofs.Std.{◌≡◌, sym, subst, Result, Ok, Err, OnOk, IfOk, IfErr, result_and}

pub ok_of_and : {T U E : Type 0} (a : Result T E) (x : U) (r : Result U E) (P : U → Type 0) → r ≡ result_and a (Ok x) → OnOk a (P x) → IfOk r P
ok_of_and (Ok y) x r P is h = subst (λ s. IfOk s P) (sym is) h
ok_of_and (Err e) x r P is h = subst (λ s. IfOk s P) (sym is) tt

pub err_of_and : {T U E : Type 0} (a : Result T E) (x : U) (r : Result U E) (Q : E → Type 0) → r ≡ result_and a (Ok x) → IfErr a Q → IfErr r Q
err_of_and (Ok y) x r Q is h = subst (λ s. IfErr s Q) (sym is) tt
err_of_and (Err e) x r Q is h = subst (λ s. IfErr s Q) (sym is) h
