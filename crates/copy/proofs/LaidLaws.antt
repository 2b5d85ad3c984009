-- Laws of bytes laid into a room: none, one part more behind them, and bytes put back, which leave the room as it was.
use mathlib.Core.Path.{◌≡◌, sym, ap, ◌∙◌}
use mathlib.Core.List.{List, [], ◌++◌, append_assoc}
use Prim.Native.Nat.{ℕ, ◌+◌, ◌-◌, ◌≤◌}
use native.Mathlib.Nat.{add-zero}
use native.Mathlib.Omega.{arith}
use lib.ListN.{length, take, drop, length-append, length-drop, take-append-drop}
use lib.Seq.{paste, take_all, take_at, take-take, take-append-add, take-paste, drop_at, drop-append-add, drop-drop, length-take-le}
use Rattle.copy.specs.Laid.{laid}
use Rattle.copy.proofs.Moves.{before}

pub laid_none : (room : List ℕ) (at : ℕ) → room ≡ laid room at []
laid_none room at = sym (take-append-drop at room) ∙ ap (λ (m : ℕ). take at room ++ drop m room) (sym (add-zero at))

pub laid_more : (room : List ℕ) (at : ℕ) (bytes s : List ℕ) (t : ℕ) → at ≤ length room → t ≤ length s
    → paste (laid room at bytes) (at + length bytes) s t ≡ laid room at (bytes ++ take t s)
laid_more room at bytes s t k w =
    let front : List ℕ = take at room ++ bytes in
    let long : length front ≡ at + length bytes =
    length-append (take at room) bytes ∙ ap (λ (m : ℕ). m + length bytes) (length-take-le at room k) in
    let tail : List ℕ = drop (at + length bytes) room in
    let e : laid room at bytes ≡ front ++ tail = sym (append_assoc (take at room) bytes tail) in
    ap (λ (l : List ℕ). paste l (at + length bytes) s t) e
    ∙ ap (λ (l : List ℕ). (l ++ take t s) ++ drop (at + length bytes + t) (front ++ tail))
    (take_at front tail (at + length bytes) long)
    ∙ ap (λ (l : List ℕ). (front ++ take t s) ++ l)
    (sym (drop-drop t (at + length bytes) (front ++ tail))
    ∙ ap (drop t) (drop_at front tail (at + length bytes) long)
    ∙ drop-drop t (at + length bytes) room
    ∙ ap (λ (m : ℕ). drop m room) last_at)
    ∙ append_assoc front (take t s) _
    ∙ append_assoc (take at room) bytes _
    ∙ ap (λ (l : List ℕ). take at room ++ l) (sym (append_assoc bytes (take t s) _))
  where
    last_at : at + length bytes + t ≡ at + length (bytes ++ take t s)
    last_at = omega (arith, length-append bytes (take t s), length-take-le t s w)

-- what a copy leaves is what it brings, laid into the room
pub pasted : (room : List ℕ) (at : ℕ) (s : List ℕ) (n : ℕ) → n ≤ length s → paste room at s n ≡ laid room at (take n s)
pasted room at s n k =
    append_assoc (take at room) (take n s) (drop (at + n) room)
    ∙ ap (λ (m : ℕ). take at room ++ (take n s ++ drop (at + m) room)) (sym (length-take-le n s k))

-- the first k of the l bytes that a copy brings, with those before them
pub pasted_front : (room s : List ℕ) (n k l : ℕ) → n ≤ length room → k ≤ l → l ≤ length s
    → take (n + k) (paste room n s l) ≡ take n room ++ take k s
pasted_front room s n k l there some long =
    sym (take-take (n + k) (n + l) (paste room n s l) (omega arith))
    ∙ ap (take (n + k)) (take-paste room n s l there long)
    ∙ ap (λ (m : ℕ). take (m + k) (take n room ++ take l s)) (sym (length-take-le n room there))
    ∙ take-append-add (take n room) (take l s) k
    ∙ ap (λ (t : List ℕ). take n room ++ t) (take-take k l s some)

-- one part more, whole
pub laid_behind : (room : List ℕ) (at : ℕ) (bytes s : List ℕ) → at ≤ length room
    → laid (laid room at bytes) (at + length bytes) s ≡ laid room at (bytes ++ s)
laid_behind room at bytes s k =
    let all : take (length s) s ≡ s = take_all (length s) s (omega arith) in
    ap (laid (laid room at bytes) (at + length bytes)) (sym all)
    ∙ sym (pasted (laid room at bytes) (at + length bytes) s (length s) (omega arith))
    ∙ laid_more room at bytes s (length s) k (omega arith)
    ∙ ap (λ (l : List ℕ). laid room at (bytes ++ l)) all

pub laid_long : (room : List ℕ) (at : ℕ) (bytes : List ℕ) → at + length bytes ≤ length room
    → length (laid room at bytes) ≡ length room
laid_long room at bytes k =
    omega (
      arith,
      length-append (take at room) (bytes ++ drop (at + length bytes) room),
      length-append bytes (drop (at + length bytes) room),
      length-take-le at room (omega arith),
      length-drop (at + length bytes) room,
    )

-- bytes laid over others, and those put back
pub put_back : (room : List ℕ) (at n : ℕ) (bytes : List ℕ) → at + n ≤ length room → length bytes ≡ n
    → laid (laid room at bytes) at (take n (drop at room)) ≡ room
put_back room at n bytes k e =
    let saved : List ℕ = take n (drop at room) in
    let tail : List ℕ = drop (at + length bytes) room in
    let front : List ℕ = take at room ++ bytes in
    let first_long : length (take at room) ≡ at = length-take-le at room (omega arith) in
    let saved-long : length saved ≡ n = length-take-le n (drop at room) (omega (arith, length-drop at room)) in
    let front_long : length front ≡ at + length bytes =
    length-append (take at room) bytes ∙ ap (λ (m : ℕ). m + length bytes) first_long in
    let as_long : at + length saved ≡ at + length bytes = omega (arith, saved-long) in
    let first : take at (laid room at bytes) ≡ take at room = take_at (take at room) (bytes ++ tail) at first_long in
    let behind : drop (at + length saved) (laid room at bytes) ≡ tail =
    ap (λ (m : ℕ). drop m (laid room at bytes)) as_long
    ∙ ap (drop (at + length bytes)) (sym (append_assoc (take at room) bytes tail))
    ∙ drop_at front tail (at + length bytes) front_long in
    (λ i. first i ++ (saved ++ behind i))
    ∙ ap (λ (m : ℕ). take at room ++ (saved ++ drop (at + m) room)) e
    ∙ ap (λ (l : List ℕ). take at room ++ (saved ++ l)) (sym (drop-drop n at room))
    ∙ ap (λ (l : List ℕ). take at room ++ l) (take-append-drop n (drop at room))
    ∙ take-append-drop at room

-- and so with two copies: of any bytes into the room, and of those that stood there
pub copied_back : (room : List ℕ) (at n : ℕ) (s : List ℕ) → at + n ≤ length room → n ≤ length s
    → paste (paste room at s n) at (take n (drop at room)) n ≡ room
copied_back room at n s k w =
    let saved : List ℕ = take n (drop at room) in
    let saved-long : length saved ≡ n = length-take-le n (drop at room) (omega (arith, length-drop at room)) in
    ap (λ (l : List ℕ). paste l at saved n) (pasted room at s n w)
    ∙ pasted (laid room at (take n s)) at saved n (omega (arith, saved-long))
    ∙ ap (laid (laid room at (take n s)) at) (take_all n saved (omega (arith, saved-long)))
    ∙ put_back room at n (take n s) k (length-take-le n s w)

-- and so with a copy of more than was laid over: w bytes from index at on, among which those k are
pub window_back : (room : List ℕ) (at w n k : ℕ) (s : List ℕ) → at ≤ n → n + k ≤ at + w → at + w ≤ length room → k ≤ length s
    → paste (paste room n s k) at (take w (drop at room)) w ≡ room
window_back room at w n k s first last fits long =
    let saved : List ℕ = take w (drop at room) in
    let front : List ℕ = take n room ++ take k s in
    let front_long : length front ≡ n + k =
    length-append (take n room) (take k s) ∙ (λ i. length-take-le n room (omega arith) i + length-take-le k s long i) in
    let more : ℕ = at + w - (n + k) in
    let there : at + w ≡ length front + more = omega (arith, front_long) in
    let again : n + k + more ≡ at + w = omega (arith, there, front_long) in
    let behind : drop (at + w) (paste room n s k) ≡ drop (at + w) room =
    ap (λ (m : ℕ). drop m (front ++ drop (n + k) room)) there
    ∙ drop-append-add front (drop (n + k) room) more
    ∙ drop-drop more (n + k) room
    ∙ ap (λ (m : ℕ). drop m room) again in
    let saved-long : length saved ≡ w = length-take-le w (drop at room) (omega (arith, length-drop at room)) in
    (λ i. (before room s n k at (omega arith) long first i ++ take_all w saved (omega (arith, saved-long)) i) ++ behind i)
    ∙ append_assoc (take at room) saved (drop (at + w) room)
    ∙ ap (λ (l : List ℕ). take at room ++ (saved ++ l)) (sym (drop-drop w at room))
    ∙ ap (λ (l : List ℕ). take at room ++ l) (take-append-drop w (drop at room))
    ∙ take-append-drop at room
