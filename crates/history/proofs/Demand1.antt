-- Demand 1: each of its statements holds of the promise that `step` and `collect` make.
use mathlib.Core.Path.{◌≡◌, refl, sym, ap, ◌∙◌}
use mathlib.Core.List.{List}
use mathlib.Core.Logic.{◌↔◌}
use Prim.Native.Nat.{ℕ}
use native.Mathlib.Omega.{arith}
use lib.ListN.{length}
use Rattle.packet.specs.Ruling.{Ruling, takes, ruling}
use Rattle.collector.specs.Refusals.{before_of, cannot_stand, too_small}
use Rattle.packet.specs.Ruling as Ruled
use Rattle.collector.specs.Answer.{Reply, Outcome, refused_with, repeated, taken}
use Rattle.collector.specs.Collected.{unaltered, outcome_of}
use Rattle.collector.specs.declared.Record.{Record}
use Rattle.history.specs.Run.{Promised, fare_of, ruled_fare}
use Rattle.history.specs.Run as R
use Rattle.history.specs.Demand1.{RefusesFirst, RefusedUnaltered}
use Rattle.history.proofs.FaresByTable.{fare_number, refused_exactly_if}

pub fare_is : (r : Record) (hold out : List ℕ) (z : Ruling) → fare_of (outcome_of r hold out z).said ≡ ruled_fare z
fare_is r hold out (Ruled.refuses n) = refl
fare_is r hold out Ruled.repeated = refl
fare_is r hold out (Ruled.bare splice) = refl
fare_is r hold out (takes q) = refl

-- an answer is a refusal exactly if that is how its packet fares
pub said_refused : (n : ℕ) (t : Reply) → (t ≡ refused_with n) ↔ (fare_of t ≡ R.refused_by n)
said_refused n (refused_with m) = (λ e. ap fare_of e, λ e. let same : m ≡ n = cc in ap refused_with same)
said_refused n repeated = (λ e. ap fare_of e, λ e. let z : ◌≡◌ {A = ℕ} 1 0 = ap fare_number e in absurd (omega arith))
said_refused n (taken sections bytes) = (
  λ e. ap fare_of e,
  λ e. let z : ◌≡◌ {A = ℕ} 2 0 = ap fare_number e in absurd (omega arith),
)

pub refuses_first : RefusesFirst Promised
refuses_first r hold out packet o x n =
    let z : Ruling = ruling (too_small (length hold) (length out)) (cannot_stand r hold) r.pid (before_of r) packet in
    let fare : fare_of o.said ≡ ruled_fare z = ap (λ (y : Outcome). fare_of y.said) x ∙ fare_is r hold out z in
    let says = said_refused n o.said in
    let row = refused_exactly_if (too_small (length hold) (length out)) (cannot_stand r hold) r.pid (before_of r) packet n in
    (λ e. row.0 (sym fare ∙ says.0 e), λ f. says.1 (fare ∙ row.1 f))

-- a packet that is not taken leaves record and rooms as they were
pub unless_taken : (r : Record) (hold out : List ℕ) (z : Ruling) → (fare_of (outcome_of r hold out z).said ≡ R.taken → ⊥)
    → outcome_of r hold out z ≡ unaltered r hold out (outcome_of r hold out z).said
unless_taken r hold out (Ruled.refuses n) h = refl
unless_taken r hold out Ruled.repeated h = refl
unless_taken r hold out (Ruled.bare splice) h = absurd (h refl)
unless_taken r hold out (takes q) h = absurd (h refl)

-- what the promise leaves where this is said
pub not_taken : (r : Record) (hold out packet : List ℕ) (o : Outcome) → Promised r hold out packet o → (said : Reply)
    → (fare_of said ≡ R.taken → ⊥) → o.said ≡ said → o ≡ unaltered r hold out said
not_taken r hold out packet o x said h e =
    let z : Ruling = ruling (too_small (length hold) (length out)) (cannot_stand r hold) r.pid (before_of r) packet in
    let same : (outcome_of r hold out z).said ≡ said = ap (λ (y : Outcome). y.said) (sym x) ∙ e in
    x
    ∙ unless_taken r hold out z (λ t. h (ap fare_of (sym same) ∙ t))
    ∙ ap (unaltered r hold out) same

pub refused_unaltered : RefusedUnaltered Promised
refused_unaltered r hold out packet o x n e =
    not_taken r hold out packet o x (refused_with n)
    (λ t. let z : ◌≡◌ {A = ℕ} 0 2 = ap fare_number t in omega arith) e
