-- Laws of the bytes of a payload and of a packet.
use mathlib.Core.Path.{◌≡◌, refl, sym, ap, ◌∙◌}
use mathlib.Core.Bool.{Bool, true, false}
use mathlib.Core.List.{List, [], ◌∷◌, ◌++◌, append-nil, map, map-append}
use Prim.Native.Nat.{ℕ, zero, suc, ◌+◌, ◌-◌, ◌≤◌}
use native.Mathlib.Omega.{arith}
use lib.ListN.{length, take, replicate, length-append, length-map, length-replicate}
use lib.Seq.{length-take-le}
use Rattle.std.specs.Prelude.{if◌then◌else◌}
use Rattle.writer.specs.Layout.{Turn, Cell, pointer, byte, filler, pointed, payload_of}
use Rattle.writer.specs.Packets.{value_of, header_of, packet_of}

-- the pointer's byte
abbrev pub pointer_of : Bool → ℕ → List ℕ
pointer_of start left = if start then left ∷ [] else []

pub byte_values : (l : List ℕ) → map value_of (map byte l) ≡ l
byte_values [] = refl
byte_values (v ∷ l) = ap (λ (z : List ℕ). v ∷ z) (byte_values l)

pub filler_values : (n : ℕ) → map value_of (replicate n filler) ≡ replicate n 0xFF
filler_values zero = refl
filler_values (suc n) = ap (λ (z : List ℕ). 0xFF ∷ z) (filler_values n)

pointed_values : (start : Bool) (left : ℕ)
    → map value_of (if start then pointer left ∷ [] else []) ≡ pointer_of start left
pointed_values true left = refl
pointed_values false left = refl

-- how many cells a pointer is
pub pointers : (start : Bool) (left : ℕ) → length (pointer_of start left) ≡ (if start then 1 else 0)
pointers true left = refl
pointers false left = refl

-- a payload's bytes before its filler, and how many bytes of filler follow
abbrev pub laid_in : Turn → List ℕ → List ℕ
laid_in t bytes = pointer_of t.start t.left ++ take t.bytes bytes

abbrev pub fillers : Turn → List ℕ → ℕ
fillers t bytes = 184 - length (laid_in t bytes)

pub payload_bytes : (t : Turn) (bytes : List ℕ)
    → map value_of (payload_of t bytes).cells ≡ laid_in t bytes ++ replicate (fillers t bytes) 0xFF
payload_bytes t bytes =
    let cells : List (Cell ℕ) = pointed t ++ map byte (take t.bytes bytes) in
    let values : List ℕ = pointer_of t.start t.left ++ take t.bytes bytes in
    let are : map value_of cells ≡ values =
    map-append value_of (pointed t) (map byte (take t.bytes bytes))
    ∙ ap (λ (l : List ℕ). l ++ map value_of (map byte (take t.bytes bytes))) (pointed_values t.start t.left)
    ∙ ap (λ (l : List ℕ). pointer_of t.start t.left ++ l) (byte_values (take t.bytes bytes)) in
    let long : length cells ≡ length values = sym (length-map cells value_of) ∙ ap length are in
    map-append value_of cells (replicate (184 - length cells) filler)
    ∙ ap (λ (l : List ℕ). l ++ map value_of (replicate (184 - length cells) filler)) are
    ∙ ap (λ (l : List ℕ). values ++ l) (filler_values (184 - length cells))
    ∙ ap (λ (n : ℕ). values ++ replicate (184 - n) 0xFF) long

-- it has 184
pub payload_long : (t : Turn) (bytes : List ℕ) → t.bytes ≤ length bytes → t.bytes + (if t.start then 1 else 0) ≤ 184
    → length (map value_of (payload_of t bytes).cells) ≡ 184
payload_long t bytes there in_payload =
    ap length (payload_bytes t bytes)
    ∙ omega (
      arith,
      length-append (laid_in t bytes) (replicate (fillers t bytes) 0xFF),
      length-append (pointer_of t.start t.left) (take t.bytes bytes),
      pointers t.start t.left,
      length-take-le t.bytes bytes there,
      length-replicate {A = ℕ} (fillers t bytes) 0xFF,
    )

-- and a packet 188
pub packet_long : (pid counter : ℕ) (t : Turn) (bytes : List ℕ) → t.bytes ≤ length bytes
    → t.bytes + (if t.start then 1 else 0) ≤ 184 → length (packet_of pid counter (payload_of t bytes)) ≡ 188
packet_long pid counter t bytes there in_payload =
    omega (
      arith,
      payload_long t bytes there in_payload,
      length-append (header_of pid counter t.start) (map value_of (payload_of t bytes).cells),
    )

-- a packet that the section begun fills is a header and its bytes
pub full_packet : (pid counter left : ℕ) (bytes : List ℕ) → 184 ≤ length bytes
    → header_of pid counter false ++ take 184 bytes
    ≡ packet_of pid counter (payload_of (record { start = false; left = left; bytes = 184 }) bytes)
full_packet pid counter left bytes k =
    let none : fillers (record { start = false; left = left; bytes = 184 }) bytes ≡ 0 =
    omega (arith, length-take-le 184 bytes k) in
    ap (λ (l : List ℕ). header_of pid counter false ++ l)
    (sym (append-nil (take 184 bytes))
    ∙ ap (λ (n : ℕ). take 184 bytes ++ replicate n 0xFF) (sym none)
    ∙ sym (payload_bytes (record { start = false; left = left; bytes = 184 }) bytes))
