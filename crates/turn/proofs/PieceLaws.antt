-- Laws of the pieces that are turned by themselves.
use Prim.Native.Nat.{ℕ, ◌+◌, ◌-◌, ◌*◌, ◌/◌, ◌%◌, ◌^◌, ◌<◌, ◌≤◌}
use mathlib.Core.Path.{◌≡◌, refl, sym, ap, ap₂, ◌∙◌, subst}
use mathlib.Core.List.{List, [], ◌∷◌, ◌++◌}
use mathlib.Core.Bool.{Bool, true, false}
use native.Mathlib.Omega.{arith}
use borrow.Author.Tests.{eq-eqb, ne_eqb}
use lib.ListN.{length, get_or, take, drop, length-append, get_or-append}
use lib.Seq.{get_or-append-add}
use lib.Dec.{eqb}
use Rattle.std.specs.Prelude.{if◌then◌else◌}
use Rattle.wire.specs.Parts.{Part}
use Rattle.wire.proofs.PartLaws.{part_taken}
use Rattle.forms.specs.Form.{raw, each_show, EachOk}
use Rattle.forms.specs.Fields.{Field, room, pack, unpack, Fit, sheet_fields, byte_of}
use Rattle.forms.specs.Room.{put, sum}
use Rattle.forms.specs.Inner.Turning.{Done, Turned}
use Rattle.forms.proofs.Puts.{sum_fits, put_none, put_put, copied_put}
use Rattle.forms.proofs.FieldLaws.{fields_fit, pack_lt, unpack_pack}
use Rattle.forms.proofs.Turns.{turned_never}
use Rattle.copy.specs.Copy.{copies, copied}
use Rattle.copy.proofs.Copies.{copies_not}
use Rattle.turn.specs.Inner.Fields.{Shape, versioned, flagged, filled, running, bared, kept_size, joined_of, joined_at, parted_of, Parted}
use Rattle.turn.specs.Inner.Ways.{put_number, ByteTurned, LoopTurned}
use Rattle.forms.specs.declared.Place.{Place}

-- ---- parts

pub part_within : {s : List ℕ} {p : ℕ} (l : List ℕ) → Part s p l → p + length l ≤ length s
part_within l h =
    let a = ap length h.whole in
    let b = length-append h.front (l ++ h.back) in
    let c = length-append l h.back in
    let d = h.place in
    omega arith

pub part_byte : {s : List ℕ} {p : ℕ} (l : List ℕ) → Part s p l → (i : ℕ) → i < length l → get_or s (p + i) 0 ≡ get_or l i 0
part_byte {s} {p} l h i g =
    ap (λ z. get_or z (p + i) 0) h.whole
    ∙ ap (λ n. get_or (h.front ++ (l ++ h.back)) (n + i) 0) (sym h.place)
    ∙ get_or-append-add h.front (l ++ h.back) i 0
    ∙ get_or-append l h.back 0 i g

-- the first byte, and the second
pub part_first_byte : {s : List ℕ} {p : ℕ} (l : List ℕ) → Part s p l → 0 < length l → get_or s p 0 ≡ get_or l 0 0
part_first_byte {s} {p} l h g = let e : p + 0 ≡ p = omega arith in ap (λ k. get_or s k 0) (sym e) ∙ part_byte l h 0 g

-- ---- what is done at a place

module _ {s o : List ℕ} (ls : length s < 2 ^ 64) (lo : length o < 2 ^ 64) {p : Place} where
  pub done : (x u : List ℕ) → Part s p.at x → p.to + length u ≤ length o → {q : Place} {o' : List ℕ} → o' ≡ put o p.to u
      → q.at ≡ sum p.at (length x) → q.to ≡ sum p.to (length u) → Done p x u o q o'
  done x u w f e a b =
      let n = part_within x w in
      record {
        room = e;
        read = a ∙ sum_fits p.at (length x) (omega arith);
        written = b ∙ sum_fits p.to (length u) (omega arith);
      }

module _ {s o : List ℕ} {p q : Place} {n : ℕ} {o' : List ℕ} where
  pub turned_raw : o' ≡ copied s p.at n o p.to → q.at ≡ p.at + n → q.to ≡ p.to + n → Turned (raw n) (raw n) s p o q o'
  turned_raw e a b = record {
    turned = λ x k w f.
        let h = part_within x w in
        let t : take n (drop p.at s) ≡ x = ap (λ m. take m (drop p.at s)) (sym k) ∙ part_taken w in
        record {
          room = e ∙ copied_put s p.at n o p.to (omega arith) (omega arith) ∙ ap (put o p.to) t;
          read = omega (arith, a);
          written = omega (arith, b);
        };
  }

  -- what is not copied is not there, or has no room
  pub raw_not_there : {r : Bool} → r ≡ copies s p.at n o p.to → r ≡ false → Turned (raw n) (raw n) s p o q o'
  raw_not_there e g =
      turned_never (λ x k w f. let h = part_within x w in copies_not s p.at n o p.to e g (omega arith) (omega arith))

-- two bytes put one after the other
pub two_put : (o : List ℕ) (to a b : ℕ) → length o < 2 ^ 64 → to + 2 ≤ length o
    → put (put o to (a ∷ [])) (sum to 1) (b ∷ []) ≡ put o to (a ∷ b ∷ [])
two_put o to a b lo f =
    ap (λ k. put (put o to (a ∷ [])) k (b ∷ [])) (sum_fits to 1 (omega arith))
    ∙ put_put o to (a ∷ []) (omega arith) (b ∷ []) (omega arith)

-- a number of two bytes, put
pub number_put : (o : List ℕ) (to v : ℕ) → length o < 2 ^ 64 → to + 2 ≤ length o
    → put_number o to v ≡ put o to (v / 256 % 256 ∷ v % 256 ∷ [])
number_put o to v lo f = two_put o to (v / 256 % 256) (v % 256) lo f

-- ---- fields

pub shape_room : {fs : List Field} {span all : ℕ} → Shape fs span all → room fs ≡ all
unfolding room
shape_room versioned = refl
shape_room flagged = refl
shape_room filled = refl
shape_room running = refl
shape_room bared = refl

-- the fields of a number, as a sheet has them
parted_is : {fs : List Field} {span all : ℕ} → Shape fs span all → (x : ℕ) → x < all → (sheet_fields fs).show
    (unpack fs x) ≡ parted_of span x
unfolding each_show unpack room
parted_is versioned x h = ap₂ (λ a b. a ∷ b ∷ []) (omega arith) (omega arith)
parted_is flagged x h = ap₂ (λ a b. a ∷ b ∷ []) (omega arith) (omega arith)
parted_is filled x h = refl
parted_is running x h = ap₂ (λ a b. a ∷ b ∷ []) (omega arith) (omega arith)
parted_is bared x h = refl

-- a number whose fields a sheet can have is what these join to
joined_is : {fs : List Field} {span all : ℕ} → Shape fs span all → (x : ℕ) → x < all → (sheet_fields fs).Ok (unpack fs x)
    → joined_of span (x / 2 % span) (x % 2) % all ≡ x
unfolding EachOk unpack room
joined_is versioned x h o = let e = o.0 in omega arith
joined_is flagged x h o = let e = o.0 in omega arith
joined_is filled x h o = let e = o.0 in omega arith
joined_is running x h o = omega arith
joined_is bared x h o = let e = o.0 in omega arith

pub parted_size : (span x : ℕ) → length (parted_of span x) ≡ kept_size span
parted_size span x = go (eqb span 0)
  where
    go : (b : Bool) → length (if b then [] else x / 2 % span ∷ x % 2 ∷ []) ≡ (if b then 0 else 2)
    go true = refl
    go false = refl

module _ {fs : List Field} {span all : ℕ} (sh : Shape fs span all) (vs : List ℕ) (fit : Fit fs vs) where
  pub packed_small : pack fs vs < all
  packed_small = subst (λ n. pack fs vs < n) (shape_room sh) (pack_lt fs vs fit)

  -- values are the fields of the number that they make
  values : unpack fs (pack fs vs) ≡ vs
  values = unpack_pack fs vs fit

  pub fields_shown : (sheet_fields fs).show vs ≡ parted_of span (pack fs vs)
  fields_shown = ap (sheet_fields fs).show (sym values) ∙ parted_is sh (pack fs vs) packed_small

  pub fields_size_lem : length ((sheet_fields fs).show vs) ≡ kept_size span
  fields_size_lem = ap length fields_shown ∙ parted_size span (pack fs vs)

-- what a sheet has at a place is joined to the number that its values make
pub fields_joined : {s : List ℕ} {at : ℕ} {fs : List Field} {span all : ℕ} → length s < 2 ^ 64 → Shape fs span all → (vs : List ℕ)
    → (sheet_fields fs).Ok vs → Part s at ((sheet_fields fs).show vs) → joined_at span s at % all ≡ pack fs vs
fields_joined {s} {at} {fs} {span} {all} ls sh vs ok w =
    let fit = fields_fit fs vs ok in
    let x : ℕ = pack fs vs in
    let o : (sheet_fields fs).Ok (unpack fs x) = subst (sheet_fields fs).Ok (sym (values sh vs fit)) ok in
    ap (λ n. n % all) (bytes (eqb span 0) x (subst (Part s at) (fields_shown sh vs fit) w))
    ∙ joined_is sh x (packed_small sh vs fit) o
  where
    bytes : (b : Bool) (x : ℕ) → Part s at (if b then [] else x / 2 % span ∷ x % 2 ∷ [])
        → (if b then 255 else 512 - 2 * span + get_or s at 0 * 2 + get_or s (sum at 1) 0)
        ≡ (if b then 255 else 512 - 2 * span + x / 2 % span * 2 + x % 2)
    bytes true x p = refl
    bytes false x p =
        let l : List ℕ = x / 2 % span ∷ x % 2 ∷ [] in
        let n = part_within l p in
        ap₂ (λ a b. 512 - 2 * span + a * 2 + b) (part_first_byte l p (omega arith))
        (ap (λ k. get_or s k 0) (sum_fits at 1 (omega arith)) ∙ part_byte l p 1 (omega arith))

pub joined_none : (span : ℕ) (s : List ℕ) (at : ℕ) → span ≡ 0 → 255 ≡ joined_at span s at
joined_none span s at e = rw (eq-eqb span 0 e) refl

pub joined_two : (span : ℕ) (s : List ℕ) (at : ℕ) {m a b x y i : ℕ} → (span ≡ 0 → ⊥) → m ≡ span → a ≡ x → x ≡ get_or s at 0 → b ≡ y
    → y ≡ get_or s i 0 → i ≡ sum at 1 → 512 - 2 * m + a * 2 + b ≡ joined_at span s at
joined_two span s at n hm ha hx hb hy hi = rw (ne_eqb span 0 n, hm, ha, hx, hb, hy, hi) refl

-- fields put into a sheet
module _ (span x : ℕ) (o : List ℕ) (to : ℕ) where
  pub parted_none : span ≡ 0 → Parted span x o to o
  parted_none e h = sym (ap (λ b. put o to (if b then [] else x / 2 % span ∷ x % 2 ∷ [])) (eq-eqb span 0 e) ∙ put_none o to (omega arith))

  pub parted_two : length o < 2 ^ 64 → (span ≡ 0 → ⊥) → {i : ℕ} {o₁ o' : List ℕ} → o₁ ≡ put o to (x / 2 % span ∷ [])
      → i ≡ sum to 1 → o' ≡ put o₁ i (x % 2 ∷ []) → Parted span x o to o'
  parted_two lo n e₁ hi e h =
      let no : eqb span 0 ≡ false = ne_eqb span 0 n in
      let f : to + 2 ≤ length o = subst (λ b. to + (if b then 0 else 2) ≤ length o) no h in
      e ∙ ap₂ (λ z i. put z i (x % 2 ∷ [])) e₁ hi
      ∙ two_put o to (x / 2 % span) (x % 2) lo f
      ∙ ap (λ b. put o to (if b then [] else x / 2 % span ∷ x % 2 ∷ [])) (sym no)

-- ---- a byte of fields

module _ {s o : List ℕ} (ls : length s < 2 ^ 64) (lo : length o < 2 ^ 64) {p q : Place} {span x : ℕ} {o' : List ℕ} where
  pub byte_joined : {k : ℕ} → x ≡ joined_at span s p.at → o' ≡ put o p.to (x % 256 ∷ []) → k ≡ kept_size span
      → q.at ≡ sum p.at k → q.to ≡ sum p.to 1 → ByteTurned true span s p o q o'
  byte_joined is e hk a b = record { turned = go }
    where
      go : {fs : List Field} → Shape fs span 256 → Turned (sheet_fields fs) (byte_of fs) s p o q o'
      go {fs} sh = record {
        turned = λ vs k w f.
            done ls lo ((sheet_fields fs).show vs) (pack fs vs ∷ []) w f
            (e ∙ ap (λ z. put o p.to (z ∷ [])) (ap (λ z. z % 256) is ∙ fields_joined ls sh vs k w))
            (a ∙ ap (sum p.at) (hk ∙ sym (fields_size_lem sh vs (fields_fit fs vs k)))) b;
      }

  pub byte_parted : {k : ℕ} → x ≡ get_or s p.at 0 → Parted span x o p.to o' → q.at ≡ sum p.at 1 → k ≡ kept_size span
      → q.to ≡ sum p.to k → ByteTurned false span s p o q o'
  byte_parted is e a hk b = record { turned = go }
    where
      go : {fs : List Field} → Shape fs span 256 → Turned (byte_of fs) (sheet_fields fs) s p o q o'
      go {fs} sh = record {
        turned = λ vs k w f.
            let l = fields_size_lem sh vs k in
            let x-is : x ≡ pack fs vs = is ∙ part_first_byte (pack fs vs ∷ []) w (omega arith) in
            done ls lo (pack fs vs ∷ []) ((sheet_fields fs).show vs) w f
            (e (omega arith) ∙ ap (put o p.to) (ap (parted_of span) x-is ∙ sym (fields_shown sh vs k)))
            a (b ∙ ap (sum p.to) (hk ∙ sym l));
      }

-- ---- either way

module _ {span : ℕ} {s o o' : List ℕ} {p q : Place} {c : Bool} (b : Bool) (e : b ≡ c) where
  pub byte_as : ByteTurned c span s p o q o' → ByteTurned b span s p o q o'
  byte_as t = subst (λ x. ByteTurned x span s p o q o') (sym e) t

  pub loop-as : LoopTurned c span s p o q o' → LoopTurned b span s p o q o'
  loop-as t = subst (λ x. LoopTurned x span s p o q o') (sym e) t
