-- That what is asked of a writer leaves one: the answer, and every byte of the room.
use mathlib.Core.Path.{◌≡◌, refl, sym, ap, ◌∙◌}
use mathlib.Core.Logic.{◌⊎◌, inl, inr}
use mathlib.Core.List.{List, ◌++◌, flatten}
use Prim.Native.Nat.{ℕ}
use Rattle.writer.specs.Answer.{Reply, wrote, refused_with, Outcome}
use Rattle.writer.specs.Written.{written}
use Rattle.writer.proofs.Outcomes.{outcome}
use Rattle.reverse.specs.Writer.{Writer, packets_in, Asked, OnlyAsPromised}
use Rattle.reverse.proofs.SentLaws.{each_some}
use Rattle.reverse.proofs.RoomPackets.{room_packets}
use Rattle.reverse.proofs.OnlyLayout.{only_layout}
use Rattle.reverse.proofs.Writer.{asked}

-- two writers of which all this holds say the same
module _ (W : Writer) (x : Asked W) (pid counter : ℕ) (bytes sizes room : List ℕ) (o : Outcome)
    (k : W pid counter bytes sizes room o) where
  abbrev p : Outcome
  p = written pid counter bytes sizes room

  said_refused : (n : ℕ) → o.said ≡ refused_with n → (n ≡ 101) ⊎ ((n ≡ 102) ⊎ (n ≡ 103)) → p.said ≡ refused_with n
  said_refused n e (inl q) =
      (asked.bad-start pid counter bytes sizes room p refl).1
      ((x.bad-start pid counter bytes sizes room o k).0 (e ∙ ap refused_with q))
      ∙ ap refused_with (sym q)
  said_refused n e (inr (inl q)) =
      (asked.bad_section pid counter bytes sizes room p refl).1
      ((x.bad_section pid counter bytes sizes room o k).0 (e ∙ ap refused_with q))
      ∙ ap refused_with (sym q)
  said_refused n e (inr (inr q)) =
      (asked.room_short pid counter bytes sizes room p refl).1
      ((x.room_short pid counter bytes sizes room o k).0 (e ∙ ap refused_with q))
      ∙ ap refused_with (sym q)

  by_said : (s : Reply) → o.said ≡ s → o ≡ p
  by_said (refused_with n) e =
      let same = said_refused n e (x.no_other pid counter bytes sizes room o k n e) in
      λ i. outcome
      ((x.unaltered pid counter bytes sizes room o k n e
      ∙ sym (asked.unaltered pid counter bytes sizes room p refl n same)) i)
      ((e ∙ sym same) i)
  by_said (wrote n) e =
      let can = (x.writes pid counter bytes sizes room o k n).0 e in
      let same : p.said ≡ wrote n = (asked.writes pid counter bytes sizes room p refl n).1 can in
      let sections : List (List ℕ) = can.1.sections in
      let sent = can.1.sent in
      let some = each_some sections sent.each in
      let ours = only_layout pid counter sections (packets_in n o.room) some
      (x.by_rule pid counter bytes sizes room o k n e sections sent) in
      let theirs = only_layout pid counter sections (packets_in n p.room) some
      (asked.by_rule pid counter bytes sizes room p refl n same sections sent) in
      let later = (x.later_stay pid counter bytes sizes room o k n e).0
      ∙ sym (asked.later_stay pid counter bytes sizes room p refl n same).0 in
      let rooms : o.room ≡ p.room =
      sym (room_packets n o.room)
      ∙ (λ i. flatten ((ours ∙ sym theirs) i) ++ later i)
      ∙ room_packets n p.room in
      λ i. outcome (rooms i) ((e ∙ sym same) i)

pub only_as_promised : (W : Writer) → Asked W → OnlyAsPromised W
only_as_promised W x pid counter bytes sizes room o k = by_said W x pid counter bytes sizes room o k o.said refl
