-- Which requests the editor's server answers itself.
use Rattle.std.specs.Prelude.{ℕ, List, Option, None, option_map}
use Rattle.replies.specs.Ids.{Ident, id_view}
use Rattle.rpc.specs.Messages.{Received, refused as refused_as, unknown}
use Rattle.rpc.specs.Reading.{received_in}
use Rattle.sessions.specs.declared.phase.Phase.{Phase}
use Rattle.sessions.specs.declared.phase.Phase.TheVariants.{Ready}
use Rattle.questions.specs.Asked.{Asked, asked_in, asked_view}
use Rattle.questions.specs.declared.content.Own.{Own}

-- `own_of phase received asked`: the id of a request that the editor's server answers itself, and what it asks: one whose method the core
-- doesn't know and the editor's server does, in the ready phase
abbrev pub own_of : Phase → Received → Option Asked → Option (Ident × Asked)
own_of (Ready unit) (refused_as (unknown id)) asked = option_map (λ a. (id, a)) asked
own_of _ _ _ = None

-- the same of a content
abbrev pub own_in : Phase → List ℕ → Option (Ident × Asked)
own_in phase content = own_of phase (received_in content) (asked_in content)

-- a request that the editor's server answers itself, of the code
abbrev pub own_view : Own → Ident × Asked
own_view own = (id_view own.id, asked_view own.asked)
