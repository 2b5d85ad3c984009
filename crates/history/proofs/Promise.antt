-- The promise fixes the outcome: two answers that tell the same are equal, and so are any two outcomes of one call. And
-- it can always be met, so that a run from a fresh record exists for any packets and any out rooms.
use mathlib.Core.Path.{◌≡◌, refl, sym, ap, ◌∙◌}
use mathlib.Core.List.{List, [], ◌∷◌}
use Prim.Native.Nat.{ℕ}
use Rattle.packet.proofs.Unique.{refusal_at, refusal_at_lem}
use Rattle.std.specs.Prelude.{Ok, Err}
use Rattle.collector.specs.Answer.{Reply, refused_with, repeated, taken, Answer, told, Outcome, came}
use Rattle.collector.specs.Collected.{collected}
use Rattle.collector.specs.declared.Record.{Record}
use Rattle.collector.specs.declared.Passed.TheVariants.{Repeated, Taken}
use Rattle.history.specs.Run.{Call, Input, RunOn, no_call, one_call}

-- ---- two answers that tell the same are equal

answerAt : Reply → Answer
answerAt (refused_with n) = Err (refusal_at n)
answerAt repeated = Ok Repeated
answerAt (taken sections bytes) = Ok (Taken sections bytes)

answer_at : (a : Answer) → answerAt (told a) ≡ a
unfolding answerAt
answer_at (Err x) = ap Err (refusal_at_lem x)
answer_at (Ok Repeated) = refl
answer_at (Ok (Taken sections bytes)) = refl

pub told_once : (a b : Answer) → told a ≡ told b → a ≡ b
told_once a b e = sym (answer_at a) ∙ ap answerAt e ∙ answer_at b

-- ---- any two outcomes that the promise allows are equal

pub one_outcome : (r : Record) (hold out packet : List ℕ) (r₁ : Record) (hold₁ out₁ : List ℕ) (a₁ : Answer)
    (r₂ : Record) (hold₂ out₂ : List ℕ) (a₂ : Answer)
    → came r₁ hold₁ out₁ a₁ ≡ collected r hold out packet → came r₂ hold₂ out₂ a₂ ≡ collected r hold out packet
    → (r₁ ≡ r₂) × (hold₁ ≡ hold₂) × (out₁ ≡ out₂) × (a₁ ≡ a₂)
one_outcome r hold out packet r₁ hold₁ out₁ a₁ r₂ hold₂ out₂ a₂ x y =
    let e : came r₁ hold₁ out₁ a₁ ≡ came r₂ hold₂ out₂ a₂ = x ∙ sym y in (
      ap (λ (o : Outcome). o.rec) e,
      ap (λ (o : Outcome). o.hold) e,
      ap (λ (o : Outcome). o.out) e,
      told_once a₁ a₂ (ap (λ (o : Outcome). o.said) e),
    )

-- ---- a run for any packets and any out rooms

pub runs_exist : (r : Record) (hold : List ℕ) (xs : List Input) → RunOn r hold xs
runs_exist r hold [] = record { calls = []; inputs = refl; rec = r; last_hold = hold; run = no_call }
runs_exist r hold (x ∷ xs) =
    let o : Outcome = collected r hold x.out x.packet in
    let k : Call = record { packet = x.packet; out = x.out; out' = o.out; said = o.said } in
    let more = runs_exist o.rec o.hold xs in
    record {
      calls = k ∷ more.calls;
      inputs = ap (λ (l : List Input). x ∷ l) more.inputs;
      rec = more.rec;
      last_hold = more.last_hold;
      run = one_call refl more.run;
    }
