-- `writer::layout::Ahead::some_more` meets its contract.
use mathlib.Core.Path.{◌≡◌, sym, ap, ◌∙◌}
use Prim.Native.Nat.{ℕ, ◌+◌, ◌-◌, ◌*◌, ◌/◌, ◌≤◌, ◌<◌}
use native.Mathlib.Omega.{arith}
use lib.ListN.{length, drop, length-drop}
use Rattle.writer.specs.Layout as Layout
use Rattle.writer.specs.Layout.{opened, turn_of, turns_from}
use Rattle.writer.specs.Inner.{ahead_of, Leaps}
use Rattle.writer.specs.declared.layout.Ahead.{Ahead}
use Rattle.writer.proofs.TurnLaws.{turn_takes, turns_on, turns_fill, opened_here}
use Rattle.writer.proofs.layout.Ahead.some_more.Goals as goal

-- b is ahead once n bytes more are laid
module _ (a b : Ahead) (n : ℕ) (next : ahead_of b ≡ opened n a.left a.waiting.now)
    (bytes : b.bytes.now ≡ drop n a.bytes.now) where
  rest-is : length b.bytes.now ≡ length a.bytes.now - n
  rest-is = ap length bytes ∙ length-drop n a.bytes.now

  filled : 184 ≤ a.left → n ≡ a.left / 184 * 184 → Leaps a (record { packets = a.left / 184; ahead = b })
  filled k e = record {
    turns =
        turns_fill (a.left / 184) a.left a.waiting.now (omega arith)
        ∙ ap (λ (m : ℕ). a.left / 184 + length (turns_from (record { left = a.left - m; waiting = a.waiting.now }))) (sym e)
        ∙ ap (λ (z : Layout.Ahead). a.left / 184 + length (turns_from z))
        (sym (next ∙ opened_here n a.left a.waiting.now (omega (arith, e))));
    falls = omega (arith, rest-is, e, a.whole);
    some = omega arith;
  }

  one : 0 < length a.bytes.now → n ≡ (turn_of (ahead_of a)).bytes → Leaps a (record { packets = 1; ahead = b })
  one some e =
      let takes = turn_takes (ahead_of a) in
      let more = takes.some (omega (arith, a.whole)) in
      record {
        turns =
            ap length (turns_on (ahead_of a) (omega (arith, a.whole)))
            ∙ omega (
              arith,
              ap (λ (z : Layout.Ahead). length (turns_from z))
                  (next ∙ ap (λ (m : ℕ). opened m a.left a.waiting.now) e),
            );
        falls = omega (arith, rest-is, e, more, takes.there, a.whole);
        some = omega arith;
      }

pub returns-then-self-ge184 : goal.returns-then-self-ge184
returns-then-self-ge184 c =
    filled c.args.self c.open_next.result _ c.open_next.ensures.0 c.open_next.ensures.1 c.if-self-ge184.true (omega arith)

pub returns : goal.returns
returns c =
    one c.args.self c.open_next-2.result _ c.open_next-2.ensures.0 c.open_next-2.ensures.1 c.requires
    (ap (λ (t : _). t.bytes) c.next_turn.ensures)
