-- What the theorems assume of a call is what the functions promise, to the letter: each law here says what an `ensures`
-- is, and is `refl`.
use mathlib.Core.Path.{◌≡◌, refl}
use seplogic.Ra.Ura.{Ura}
use base.Logic.{SProp}
use prog.Memory.{Memory}
use prog.Routine.{Routine}
use types.Logic.{Logic}
use contract.Monad.{Fun, fact}
use contract.Lifetimes.{Lfts}
use denote.Triple.Entry.{Args, Res}
use denote.Triple.Clauses.{Lasts, at_exit}
use Rattle.collector.specs.Answer.{came}
use Rattle.collector.specs.Collected.{fresh_record}
use Rattle.history.specs.Run.{Promised}
use Rattle.collector.specs.contracts.fresh as fresh
use Rattle.collector.specs.contracts.step as step
use Rattle.collector.specs.contracts.collect as collect

module _ {M : Type 1} {𝓤 : Ura M} (𝓛 : Logic 𝓤) (at_mem : Memory → SProp 𝓤) (run : Routine → Fun 𝓤) where
  pub fresh_promises : (κs : Lfts (fresh.ended).signature.lifetimes) (a : Args (fresh.ended).signature κs)
      (r : Res (fresh.ended).signature κs) (ws : Lasts fresh.ended κs a)
      → (fresh.clauses 𝓛 at_mem run κs a).ensures tt r (at_exit fresh.ended κs a ws) ≡ fact 𝓤 (r ≡ fresh_record a.0)
  fresh_promises κs a r ws = refl

  pub step_promises : (κs : Lfts (step.ended).signature.lifetimes) (a : Args (step.ended).signature κs)
      (r : Res (step.ended).signature κs) (ws : Lasts step.ended κs a)
      → (step.clauses 𝓛 at_mem run κs a).ensures tt r (at_exit step.ended κs a ws)
      ≡ fact 𝓤
      (Promised a.0 a.1.0.now a.1.1.0.now a.1.1.1.0.now
      (came r.record ws.1.0 ws.1.1.0 r.answer))
  step_promises κs a r ws = refl

  pub collect_promises : (κs : Lfts (collect.ended).signature.lifetimes) (a : Args (collect.ended).signature κs)
      (r : Res (collect.ended).signature κs) (ws : Lasts collect.ended κs a)
      → (collect.clauses 𝓛 at_mem run κs a).ensures tt r (at_exit collect.ended κs a ws)
      ≡ fact 𝓤
      (Promised a.0.now a.1.0.now a.1.1.0.now a.1.1.1.0.now
      (came ws.0 ws.1.0 ws.1.1.0 r))
  collect_promises κs a r ws = refl
