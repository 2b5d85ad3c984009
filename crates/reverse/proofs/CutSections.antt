-- So many bytes of sections that stand end to end: the sections that end in them, the first part of one that they cut,
-- and what is behind. The writer's `opened` says of the sizes what is behind.
use mathlib.Core.Path.{◌≡◌, refl, sym, ap, ◌∙◌, subst}
use mathlib.Core.List.{List, [], ◌∷◌, ◌++◌, append_assoc, map, flatten}
use mathlib.Core.Logic.{⊎_elim}
use Prim.Native.Nat.{ℕ, zero, suc, ◌+◌, ◌-◌, ◌≤◌, ◌<◌}
use native.Mathlib.Omega.{arith}
use lib.ListN.{length, take, drop, get_or, length-append, length-drop, take-append-drop, get_or-append}
use lib.Seq.{length-take-le, take-nil, drop-nil, take-append-le, drop-append-le, take-append-add, drop-append-add}
use Rattle.wire.specs.Each.{Each}
use Rattle.wire.specs.Sections.{Unfinished}
use Rattle.collector.proofs.ByteRuns.{lt_or_ge, total_prefix}
use Rattle.history.proofs.LeftInHand.{Standing, standing_none}
use Rattle.writer.specs.Layout.{Ahead, bytes_ahead, opened}
use Rattle.writer.proofs.TurnLaws.{opened_here, opened_next}
use Rattle.writer.proofs.SizeLaws.{sum_long}
use Rattle.reverse.specs.Sent.{Sendable}

-- ---- the section begun

-- the bytes of it that are laid, and those that are not: there is none, or there are some of both
pub data Begun : List ℕ → List ℕ → Type 0 where
  none : Begun [] []
  part : (b : ℕ) (h : List ℕ) (c : ℕ) (rest : List ℕ) → Sendable ((b ∷ h) ++ (c ∷ rest)) → Begun (b ∷ h) (c ∷ rest)

-- the sections that have not ended: the one begun, and those that wait
abbrev pub unended : List ℕ → List ℕ → List (List ℕ) → List (List ℕ)
unended [] rest ws = ws
unended (b ∷ h) rest ws = ((b ∷ h) ++ rest) ∷ ws

-- their sizes, as the writer sees them
abbrev pub ahead_of : List ℕ → List (List ℕ) → Ahead
ahead_of rest ws = record { left = length rest; waiting = map length ws }

pub unended_first : (h rest : List ℕ) (ws : List (List ℕ)) → unended h rest ws ≡ unended h rest [] ++ ws
unended_first [] rest ws = refl
unended_first (b ∷ h) rest ws = refl

unended_some : (h rest : List ℕ) (ws : List (List ℕ)) → 0 < length h → unended h rest ws ≡ (h ++ rest) ∷ ws
unended_some [] rest ws k = absurd (omega arith)
unended_some (b ∷ h) rest ws k = refl

pub begun_some : (h rest : List ℕ) → 0 < length h → 0 < length rest → Sendable (h ++ rest) → Begun h rest
begun_some [] rest k w x = absurd (omega arith)
begun_some (b ∷ h) [] k w x = absurd (omega arith)
begun_some (b ∷ h) (c ∷ rest) k w x = part b h c rest x

pub begun_none : {h rest : List ℕ} → Begun h rest → length rest ≡ 0 → h ≡ []
begun_none none e = refl
begun_none (part b h c rest x) e = absurd (omega arith)

-- a first part of a section that is sent is unfinished
pub part_unfinished : (h rest : List ℕ) → 0 < length rest → Sendable (h ++ rest) → Unfinished h
part_unfinished h rest k x = record {
  more = λ w.
      let same = total_prefix h rest w in
      let limit = x.whole.limit in
      let exact = x.whole.exact in
      (omega arith, omega (arith, length-append h rest));
}

part_first : (h rest : List ℕ) → Sendable (h ++ rest) → 0 < length h → get_or h 0 0 ≡ 255 → ⊥
part_first h rest x k e = x.no_filler (get_or-append h rest 0 0 k ∙ e)

-- what is laid of the section begun can stand in hand
pub begun_stands : {h rest : List ℕ} → Begun h rest → Standing h
begun_stands none = standing_none
begun_stands (part b h c rest x) = record {
  first = part_first (b ∷ h) (c ∷ rest) x;
  unfinished = part_unfinished (b ∷ h) (c ∷ rest) (omega arith) x;
}

-- ---- sizes

pub ahead_long : (rest : List ℕ) (ws : List (List ℕ)) → bytes_ahead (ahead_of rest ws) ≡ length (rest ++ flatten ws)
ahead_long rest ws = omega (arith, sum_long ws, length-append rest (flatten ws))

-- ---- m bytes of the sections ws

-- the sections that end in them; of the one begun the bytes among them and those behind; and the sections that wait
pub record Cut (m : ℕ) (ws : List (List ℕ)) : Type 0 where
  pub ended : List (List ℕ)
  pub h : List ℕ
  pub rest : List ℕ
  pub waiting : List (List ℕ)
  pub begun : Begun h rest
  pub each_ended : Each Sendable ended
  pub each_waiting : Each Sendable waiting
  pub sections_are : ws ≡ ended ++ unended h rest waiting
  pub laid : take m (flatten ws) ≡ flatten ended ++ h
  pub not_laid : drop m (flatten ws) ≡ rest ++ flatten waiting
  pub sizes : (n : ℕ) → opened (n + m) n (map length ws) ≡ ahead_of rest waiting

cut_none : (m : ℕ) → m ≤ 0 → Cut m []
unfolding flatten
cut_none m k = record {
  ended = [];
  h = [];
  rest = [];
  waiting = [];
  begun = none;
  each_ended = tt;
  each_waiting = tt;
  sections_are = refl;
  laid = take-nil m;
  not_laid = drop-nil m;
  sizes = λ n. λ i. record { left = gone n i; waiting = [] };
}
  where
    gone : (n : ℕ) → n - (n + m) ≡ 0
    gone n = omega arith

-- the first of them is cut, or not begun
cut_first : (m : ℕ) (s : List ℕ) (ws : List (List ℕ)) → Sendable s → Each Sendable ws → m < length s → Cut m (s ∷ ws)
unfolding flatten
cut_first zero s ws x y k = record {
  ended = [];
  h = [];
  rest = [];
  waiting = s ∷ ws;
  begun = none;
  each_ended = tt;
  each_waiting = (x, y);
  sections_are = refl;
  laid = refl;
  not_laid = refl;
  sizes = λ n.
      opened_here (n + 0) n (map length (s ∷ ws)) (omega arith)
      ∙ (λ i. record { left = same n i; waiting = map length (s ∷ ws) });
}
  where
    same : (n : ℕ) → n - (n + 0) ≡ 0
    same n = omega arith
cut_first (suc m) s ws x y k =
    let front : length (take (suc m) s) ≡ suc m = length-take-le (suc m) s (omega arith) in
    let back : length (drop (suc m) s) ≡ length s - suc m = length-drop (suc m) s in
    let whole : take (suc m) s ++ drop (suc m) s ≡ s = take-append-drop (suc m) s in
    record {
      ended = [];
      h = take (suc m) s;
      rest = drop (suc m) s;
      waiting = ws;
      begun = begun_some (take (suc m) s) (drop (suc m) s) (omega arith) (omega arith) (subst Sendable (sym whole) x);
      each_ended = tt;
      each_waiting = y;
      sections_are =
          ap (λ (z : List ℕ). z ∷ ws) (sym whole)
          ∙ sym (unended_some (take (suc m) s) (drop (suc m) s) ws (omega arith));
      laid = take-append-le (suc m) s (flatten ws) (omega arith);
      not_laid = drop-append-le (suc m) s (flatten ws) (omega arith);
      sizes = λ n.
          let left : n + length s - (n + suc m) ≡ length (drop (suc m) s) = omega arith in
          opened_next (n + suc m) n (length s) (map length ws) (omega arith)
          ∙ opened_here (n + suc m) (n + length s) (map length ws) (omega arith)
          ∙ (λ i. record { left = left i; waiting = map length ws });
    }

-- the first of them ends
cut_behind : (m : ℕ) (s : List ℕ) (ws : List (List ℕ)) → Sendable s → length s ≤ m → Cut (m - length s) ws
    → Cut m (s ∷ ws)
unfolding flatten
cut_behind m s ws x k c =
    let all : m ≡ length s + (m - length s) = omega arith in
    record {
      ended = s ∷ c.ended;
      h = c.h;
      rest = c.rest;
      waiting = c.waiting;
      begun = c.begun;
      each_ended = (x, c.each_ended);
      each_waiting = c.each_waiting;
      sections_are = ap (λ (l : List (List ℕ)). s ∷ l) c.sections_are;
      laid =
          ap (λ (n : ℕ). take n (s ++ flatten ws)) all
          ∙ take-append-add s (flatten ws) (m - length s)
          ∙ ap (λ (l : List ℕ). s ++ l) c.laid
          ∙ sym (append_assoc s (flatten c.ended) c.h);
      not_laid =
          ap (λ (n : ℕ). drop n (s ++ flatten ws)) all
          ∙ drop-append-add s (flatten ws) (m - length s)
          ∙ c.not_laid;
      sizes = λ n.
          let some = x.whole.header in
          let same : n + m ≡ n + length s + (m - length s) = omega arith in
          opened_next (n + m) n (length s) (map length ws) (omega arith)
          ∙ ap (λ (z : ℕ). opened z (n + length s) (map length ws)) same
          ∙ c.sizes (n + length s);
    }

pub cut_at : (m : ℕ) (ws : List (List ℕ)) → Each Sendable ws → m ≤ length (flatten ws) → Cut m ws
unfolding flatten
cut_at m [] x k = cut_none m k
cut_at m (s ∷ ws) x k =
    let more = cut_at (m - length s) ws x.1 (omega (arith, length-append s (flatten ws))) in
    ⊎_elim (λ w. cut_first m s ws x.0 x.1 w) (λ w. cut_behind m s ws x.0 w more) (lt_or_ge m (length s))
