-- What the theorems assume of a call is the `ensures` of the function, to the letter.
use mathlib.Core.Path.{◌≡◌, refl}
use seplogic.Ra.Ura.{Ura}
use base.Logic.{SProp}
use prog.Memory.{Memory}
use prog.Routine.{Routine}
use types.Logic.{Logic}
use contract.Monad.{Fun}
use Rattle.wire.specs.Ensures.{Ensures}
use Rattle.search.specs.Search.{told_found, sought, body_of}
use Rattle.search.specs.contracts.search as searching
use Rattle.search.specs.contracts.body as handing

module _ {M : Type 1} {𝓤 : Ura M} (𝓛 : Logic 𝓤) (mem : Memory → SProp 𝓤) (run : Routine → Fun 𝓤) where
  pub search-ensures : Ensures 𝓤 searching.ended (searching.clauses 𝓛 mem run) (λ κs a r ws. told_found r ≡ sought a.0.now a.1.0)
  search-ensures κs a g r ws = refl

  pub body-ensures : Ensures 𝓤 handing.ended (handing.clauses 𝓛 mem run)
      (λ κs a r ws. r.now ≡ body_of a.0.now (told_found a.1.0))
  body-ensures κs a g r ws = refl
