-- What is given at a method that is known.
use Rattle.rpc.proofs.Std.{◌≡◌, ℕ, List, sym, subst, Result, Data}
use Rattle.rpc.proofs.Common.{Message, RpcFault, Ident, request_of, Gives}

pub gives_at : (r : Result Message RpcFault) (method known : List ℕ) (id : Ident) (d : Data) → method ≡ known → Gives r (request_of known id d) → Gives r (request_of method id d)
gives_at r method known id d is given = subst (λ m. Gives r (request_of m id d)) (sym is) given
