-- What the theorems assume of a call is the `ensures` of the function, to the letter.
use mathlib.Core.Path.{◌≡◌, refl}
use seplogic.Ra.Ura.{Ura}
use lib.ListN.{drop}
use base.Logic.{SProp}
use prog.Memory.{Memory}
use prog.Routine.{Routine}
use types.Logic.{Logic}
use contract.Monad.{Fun}
use Rattle.wire.specs.Ensures.{Ensures}
use Rattle.verdict.specs.Verdict.{told}
use Rattle.loops.specs.Descriptors.{descriptors, step_at, told_step, Steps, descriptor_of}
use Rattle.loops.specs.contracts.descriptors.judge_descriptors as judging
use Rattle.loops.specs.contracts.walk.step_at as stepping
use Rattle.loops.specs.contracts.walk.step_from as going
use Rattle.loops.specs.contracts.walk.descriptor as handing
use Rattle.loops.specs.contracts.walk.over as starting
use Rattle.loops.specs.contracts.walk.next as walking

module _ {M : Type 1} {𝓤 : Ura M} (𝓛 : Logic 𝓤) (mem : Memory → SProp 𝓤) (run : Routine → Fun 𝓤) where
  pub judge-descriptors-ensures : Ensures 𝓤 judging.ended (judging.clauses 𝓛 mem run)
      (λ κs a r ws. told r ≡ (descriptors a.1.0 (drop a.1.0 a.0.now)).ends)
  judge-descriptors-ensures κs a g r ws = refl

  pub step-at-ensures : Ensures 𝓤 stepping.ended (stepping.clauses 𝓛 mem run) (λ κs a r ws. told_step r ≡ step_at a.0.now a.1.0)
  step-at-ensures κs a g r ws = refl

  pub step-from-ensures : Ensures 𝓤 going.ended (going.clauses 𝓛 mem run) (λ κs a r ws. Steps a.0.now a.1.0 r.step r.at)
  step-from-ensures κs a g r ws = refl

  pub descriptor-ensures : Ensures 𝓤 handing.ended (handing.clauses 𝓛 mem run)
      (λ κs a r ws. r.now ≡ descriptor_of a.0.now (told_step a.1.0))
  descriptor-ensures κs a g r ws = refl

  pub over-ensures : Ensures 𝓤 starting.ended (starting.clauses 𝓛 mem run) (λ κs a r ws. (r.bytes ≡ a.0) × (r.at ≡ 0))
  over-ensures κs a g r ws = refl

  pub next-ensures : Ensures 𝓤 walking.ended (walking.clauses 𝓛 mem run)
      (λ κs a r ws. Steps a.0.now.bytes.now a.0.now.at r ws.0.at × (ws.0.bytes ≡ a.0.now.bytes))
  next-ensures κs a g r ws = refl
