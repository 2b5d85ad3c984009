-- What the theorems assume of a call is the `ensures` of the function, to the letter.
use mathlib.Core.Path.{◌≡◌, refl}
use seplogic.Ra.Ura.{Ura}
use base.Logic.{SProp}
use prog.Memory.{Memory}
use prog.Routine.{Routine}
use types.Logic.{Logic}
use contract.Monad.{Fun}
use Rattle.wire.specs.Ensures.{Ensures}
use Rattle.verdict.specs.Verdict.{told}
use Rattle.section.specs.Reading.{body, judged}
use Rattle.section.specs.contracts.judge.judge as judging
use Rattle.section.specs.contracts.judge.before_crc as cutting

module _ {M : Type 1} {𝓤 : Ura M} (𝓛 : Logic 𝓤) (mem : Memory → SProp 𝓤) (run : Routine → Fun 𝓤) where
  pub judge-ensures : Ensures 𝓤 judging.ended (judging.clauses 𝓛 mem run) (λ κs a r ws. told r ≡ judged a.0.now)
  judge-ensures κs a g r ws = refl

  pub before-crc-ensures : Ensures 𝓤 cutting.ended (cutting.clauses 𝓛 mem run) (λ κs a r ws. r.now ≡ body a.0 a.1.0.now)
  before-crc-ensures κs a g r ws = refl
