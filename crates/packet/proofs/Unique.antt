-- Two answers that mean the same are equal: a refusal is known by its number.
use mathlib.Core.Path.{◌≡◌, refl, sym, ap, ◌∙◌}
use Prim.Native.Nat.{ℕ}
use lib.Dec.{eqb}
use Rattle.std.specs.Prelude.{Ok, Err, if◌then◌else◌}
use Rattle.packet.specs.Refusals.{Judged, refuse, bare, has_payload}
use Rattle.packet.specs.Judgement.{number_of, Judgement, meant}
use Rattle.packet.specs.declared.Refusal.{Refusal}
use Rattle.packet.specs.declared.Refusal.TheVariants.{NotAPacket, Room, Unfit, Sync, Error, OtherPid, Scrambled, Adaptation, Pointer}
use Rattle.packet.specs.declared.Load.TheVariants.{Bare, Payload}

pub refusal_at : ℕ → Refusal
refusal_at n =
    if eqb n 41 then NotAPacket
    else (if eqb n 42 then Room
    else (if eqb n 43 then Unfit
    else (if eqb n 44 then Sync
    else (if eqb n 45 then Error
    else (if eqb n 46 then OtherPid
    else (if eqb n 47 then Scrambled
    else (if eqb n 48 then Adaptation
    else Pointer)))))))

pub refusal_at_lem : (x : Refusal) → refusal_at (number_of x) ≡ x
unfolding refusal_at
refusal_at_lem NotAPacket = refl
refusal_at_lem Room = refl
refusal_at_lem Unfit = refl
refusal_at_lem Sync = refl
refusal_at_lem Error = refl
refusal_at_lem OtherPid = refl
refusal_at_lem Scrambled = refl
refusal_at_lem Adaptation = refl
refusal_at_lem Pointer = refl

judgement_at : Judged → Judgement
judgement_at (refuse n) = Err (refusal_at n)
judgement_at (bare splice) = Ok (Bare splice)
judgement_at (has_payload from start counter splice) =
    Ok (Payload (record { splice = splice; start = start; counter = counter; from = from }))

judgement_at_lem : (a : Judgement) → judgement_at (meant a) ≡ a
unfolding judgement_at
judgement_at_lem (Err x) = ap Err (refusal_at_lem x)
judgement_at_lem (Ok (Bare splice)) = refl
judgement_at_lem (Ok (Payload q)) = refl

pub meant_once : (a b : Judgement) → meant a ≡ meant b → a ≡ b
meant_once a b e = sym (judgement_at_lem a) ∙ ap judgement_at e ∙ judgement_at_lem b
