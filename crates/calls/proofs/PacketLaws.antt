-- What C is told of a call of the writer, and what the writer said beneath.
use mathlib.Core.Path.{◌≡◌, refl, sym, ap, ◌∙◌}
use mathlib.Core.Logic.{◌⊎◌, inl, inr, ◌↔◌}
use mathlib.Core.List.{List}
use Prim.Native.Nat.{ℕ}
use native.Mathlib.Omega.{arith}
use Rattle.writer.specs.Answer.{Reply, wrote, refused_with, Outcome}
use Rattle.writer.specs.Written.{written}
use Rattle.reverse.proofs.Writer.{no_other_number}
use Rattle.cabinet.specs.Packets.{packets_says}
use Rattle.cabinet.specs.declared.packets.PacketsAnswer.{PacketsAnswer}
use Rattle.calls.specs.Packets.{Packets}

-- a refusal has one of the three numbers
abbrev Numbered : Reply → Type 0
Numbered said = (n : ℕ) → said ≡ refused_with n → (n ≡ 101) ⊎ ((n ≡ 102) ⊎ (n ≡ 103))

not-0 : (n : ℕ) → (n ≡ 101) ⊎ ((n ≡ 102) ⊎ (n ≡ 103)) → n ≡ 0 → ⊥
not-0 n (inl e) z = omega arith
not-0 n (inr (inl e)) z = omega arith
not-0 n (inr (inr e)) z = omega arith

-- the number 0 is no refusal's
wrote_by : (said : Reply) → Numbered said → (packets_says said).number ≡ 0 → said ≡ wrote (packets_says said).packets
wrote_by (wrote n) k z = refl
wrote_by (refused_with n) k z = absurd (not-0 n (k n refl) z)

-- another one is a refusal's
refused_by_lem : (said : Reply) (n : ℕ) → (n ≡ 0 → ⊥) → (packets_says said).number ≡ n → said ≡ refused_with n
refused_by_lem (wrote m) n k e = absurd (k (sym e))
refused_by_lem (refused_with m) n k e = ap refused_with e

module _ (pid counter : ℕ) (bytes sizes room room' : List ℕ) (a : PacketsAnswer)
    (p : Packets pid counter bytes sizes room a room') where
  abbrev o : Outcome
  o = written pid counter bytes sizes room

  number_is : a.number ≡ (packets_says o.said).number
  number_is = ap (λ (x : PacketsAnswer). x.number) p.0

  many_are : a.packets ≡ (packets_says o.said).packets
  many_are = ap (λ (x : PacketsAnswer). x.packets) p.0

  numbered : Numbered o.said
  numbered = no_other_number pid counter bytes sizes room o refl

  -- what the writer said, by what C is told
  pub said_wrote : a.number ≡ 0 → o.said ≡ wrote a.packets
  said_wrote z = wrote_by o.said numbered (sym number_is ∙ z) ∙ ap wrote (sym many_are)

  pub said_refused : (n : ℕ) → (n ≡ 0 → ⊥) → a.number ≡ n → o.said ≡ refused_with n
  said_refused n k e = refused_by_lem o.said n k (sym number_is ∙ e)

  -- and the other way
  pub told_wrote : (n : ℕ) → o.said ≡ wrote n → (a.number ≡ 0) × (a.packets ≡ n)
  told_wrote n e = (
    number_is ∙ ap (λ (s : Reply). (packets_says s).number) e,
    many_are ∙ ap (λ (s : Reply). (packets_says s).packets) e,
  )

  pub told_refused : (n : ℕ) → o.said ≡ refused_with n → a.number ≡ n
  told_refused n e = number_is ∙ ap (λ (s : Reply). (packets_says s).number) e

  -- what holds exactly if the writer refuses so, holds exactly if C is told so
  pub refused_as : (n : ℕ) → (n ≡ 0 → ⊥) → {Q : Type 0} → (o.said ≡ refused_with n) ↔ Q → (a.number ≡ n) ↔ Q
  refused_as n k q = (λ e. q.0 (said_refused n k e), λ x. told_refused n (q.1 x))
