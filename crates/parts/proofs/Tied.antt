-- What the theorems assume of a call is the `ensures` of the function, to the letter.
use mathlib.Core.Path.{◌≡◌, refl}
use seplogic.Ra.Ura.{Ura}
use base.Logic.{SProp}
use prog.Memory.{Memory}
use prog.Routine.{Routine}
use types.Logic.{Logic}
use contract.Monad.{Fun}
use Rattle.wire.specs.Ensures.{Ensures}
use Rattle.clock.specs.Fault.{told}
use Rattle.parts.specs.Parts.{no_part, within}
use Rattle.parts.specs.Opening.{Opens}
use Rattle.parts.specs.Entries.{next_entry}
use Rattle.parts.specs.Descriptors.{next_descriptor}
use Rattle.parts.specs.Room.{next_section}
use Rattle.parts.specs.Names.{id_in, network_in, start_in, duration_in, time_from, duration_from}
use Rattle.parts.specs.contracts.no_part as no-part-call
use Rattle.parts.specs.contracts.is_within as within-call
use Rattle.parts.specs.contracts.opening.open as open-call
use Rattle.parts.specs.contracts.entries.next_entry as next-entry-call
use Rattle.parts.specs.contracts.descriptors.next_descriptor as next-descriptor-call
use Rattle.parts.specs.contracts.room.next_section as next-section-call
use Rattle.parts.specs.contracts.names.id_in as id-in-call
use Rattle.parts.specs.contracts.names.network_in as network-in-call
use Rattle.parts.specs.contracts.names.start_in as start-in-call
use Rattle.parts.specs.contracts.names.duration_in as duration-in-call
use Rattle.parts.specs.contracts.names.time_from as time-from-call
use Rattle.parts.specs.contracts.names.duration_from as duration-from-call

module _ {M : Type 1} {𝓤 : Ura M} (𝓛 : Logic 𝓤) (mem : Memory → SProp 𝓤) (run : Routine → Fun 𝓤) where
  pub no-part-ensures : Ensures 𝓤 no-part-call.ended (no-part-call.clauses 𝓛 mem run)
      (λ κs a r ws. r ≡ no_part)
  no-part-ensures κs a g r ws = refl

  pub within-ensures : Ensures 𝓤 within-call.ended (within-call.clauses 𝓛 mem run)
      (λ κs a r ws. r ≡ within a.0.now a.1.0)
  within-ensures κs a g r ws = refl

  pub open-ensures : Ensures 𝓤 open-call.ended (open-call.clauses 𝓛 mem run)
      (λ κs a r ws. Opens a.0.now r)
  open-ensures κs a g r ws = refl

  pub next-entry-ensures : Ensures 𝓤 next-entry-call.ended (next-entry-call.clauses 𝓛 mem run)
      (λ κs a r ws. r ≡ next_entry a.0.now a.1.0)
  next-entry-ensures κs a g r ws = refl

  pub next-descriptor-ensures : Ensures 𝓤 next-descriptor-call.ended (next-descriptor-call.clauses 𝓛 mem run)
      (λ κs a r ws. r ≡ next_descriptor a.0.now a.1.0)
  next-descriptor-ensures κs a g r ws = refl

  pub next-section-ensures : Ensures 𝓤 next-section-call.ended (next-section-call.clauses 𝓛 mem run)
      (λ κs a r ws. r ≡ next_section a.0.now a.1.0)
  next-section-ensures κs a g r ws = refl

  pub id-in-ensures : Ensures 𝓤 id-in-call.ended (id-in-call.clauses 𝓛 mem run)
      (λ κs a r ws. r ≡ id_in a.0.now a.1.0)
  id-in-ensures κs a g r ws = refl

  pub network-in-ensures : Ensures 𝓤 network-in-call.ended (network-in-call.clauses 𝓛 mem run)
      (λ κs a r ws. r ≡ network_in a.0.now a.1.0)
  network-in-ensures κs a g r ws = refl

  pub start-in-ensures : Ensures 𝓤 start-in-call.ended (start-in-call.clauses 𝓛 mem run)
      (λ κs a r ws. r ≡ start_in a.0.now a.1.0)
  start-in-ensures κs a g r ws = refl

  pub duration-in-ensures : Ensures 𝓤 duration-in-call.ended (duration-in-call.clauses 𝓛 mem run)
      (λ κs a r ws. r ≡ duration_in a.0.now a.1.0)
  duration-in-ensures κs a g r ws = refl

  pub time-from-ensures : Ensures 𝓤 time-from-call.ended (time-from-call.clauses 𝓛 mem run)
      (λ κs a r ws. told r ≡ time_from a.0.now)
  time-from-ensures κs a g r ws = refl

  pub duration-from-ensures : Ensures 𝓤 duration-from-call.ended (duration-from-call.clauses 𝓛 mem run)
      (λ κs a r ws. told r ≡ duration_from a.0.now)
  duration-from-ensures κs a g r ws = refl
