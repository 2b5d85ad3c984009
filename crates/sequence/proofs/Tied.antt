-- The promises that the theorems speak of are the `ensures` of `roll::take`, `roll::ask` and `roll::empty`, to the
-- letter.
use mathlib.Core.Path.{◌≡◌, refl}
use seplogic.Ra.Ura.{Ura}
use base.Logic.{SProp}
use prog.Memory.{Memory}
use prog.Routine.{Routine}
use types.Logic.{Logic}
use contract.Monad.{Fun, fact}
use contract.Lifetimes.{Lfts}
use denote.Triple.Entry.{Args, Res}
use denote.Triple.Clauses.{Lasts, at_exit}
use Rattle.roll.specs.Answer.{told_progress}
use Rattle.roll.specs.Roll.{heard}
use Rattle.sequence.specs.Promise.{Promised, PromisedAsked, PromisedEmpty}
use Rattle.roll.specs.contracts.take as take
use Rattle.roll.specs.contracts.ask as ask
use Rattle.roll.specs.contracts.empty as empty

module _ {M : Type 1} {𝓤 : Ura M} (𝓛 : Logic 𝓤) (at_mem : Memory → SProp 𝓤) (run : Routine → Fun 𝓤) where
  pub take_promises : (κs : Lfts (take.ended).signature.lifetimes) (a : Args (take.ended).signature κs)
      (x : Res (take.ended).signature κs)
      (ws : Lasts take.ended κs a)
      → (take.clauses 𝓛 at_mem run κs a).ensures tt x (at_exit take.ended κs a ws)
      ≡ fact 𝓤 (Promised a.0 a.1.0.now (heard x))
  take_promises κs a x ws = refl

  pub ask_promises : (κs : Lfts (ask.ended).signature.lifetimes) (a : Args (ask.ended).signature κs)
      (x : Res (ask.ended).signature κs)
      (ws : Lasts ask.ended κs a)
      → (ask.clauses 𝓛 at_mem run κs a).ensures tt x (at_exit ask.ended κs a ws)
      ≡ fact 𝓤 (PromisedAsked a.0 (told_progress x))
  ask_promises κs a x ws = refl

  pub empty_promises : (κs : Lfts (empty.ended).signature.lifetimes) (a : Args (empty.ended).signature κs)
      (x : Res (empty.ended).signature κs)
      (ws : Lasts empty.ended κs a)
      → (empty.clauses 𝓛 at_mem run κs a).ensures tt x (at_exit empty.ended κs a ws) ≡ fact 𝓤 (PromisedEmpty x)
  empty_promises κs a x ws = refl
