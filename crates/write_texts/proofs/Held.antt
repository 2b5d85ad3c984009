-- The number and the two texts that a descriptor holds: a reading finds them, and a writer puts them there.
use mathlib.Core.Path.{◌≡◌, refl, sym, ap, ap₂, ◌∙◌, subst}
use mathlib.Core.Logic.{◌↔◌}
use mathlib.Core.List.{List, [], ◌∷◌, ◌++◌, append-nil}
use Prim.Native.Nat.{ℕ, suc, ◌+◌, ◌*◌, ◌/◌, ◌^◌, ◌<◌, ◌≤◌}
use native.Mathlib.Omega.{arith}
use lib.ListN.{length, get_or, take, drop}
use Rattle.wire.specs.Bytes.{Bytes}
use Rattle.wire.specs.Number.{number}
use Rattle.wire.specs.Parts.{Part}
use Rattle.wire.specs.Reading.{value}
use Rattle.wire.proofs.ReadingLaws.{value_is, never}
use Rattle.wire.proofs.NumberBits.{number_below}
use Rattle.wire.proofs.PartLaws.{part_taken, part_first, part_second}
use Rattle.forms.specs.Fields.{room, unpack}
use Rattle.forms.proofs.Lawful.{bytes_front, bytes_behind}
use Rattle.clock.specs.Fault.{Answered}
use Rattle.clock.proofs.Reported.{byte_more}
use Rattle.layout.specs.Refusal.{part_at, bytes_of}
use Rattle.layout.specs.Shapes.{Framed}
use Rattle.layout.specs.Widths.{size, keptIn, HoldsTexts}
use Rattle.layout.specs.declared.texts.TwoTexts.{TwoTexts}
use Rattle.layout.proofs.WidthLaws.{body_bytes}
use Rattle.writing.specs.Number.{ofNumber}
use Rattle.writing.proofs.NumberBytes.{length_of, of-bytes, number-of, of_number, bytes_join}
use Rattle.write_texts.specs.Texts.{lengthed, two_texts}
use Rattle.write_texts.proofs.Headed.{framed_headed, framed_bytes}
use Rattle.write_texts.proofs.Numbered.{size_of, numbered, numbered_length, one_number, fields_written, written_inside, fields_case}

-- ---- the texts

-- where they are, behind k bytes
abbrev places : ℕ → List ℕ → List ℕ → TwoTexts
places k first second = record {
  first = part_at (k + 1) (length first);
  second = part_at (k + 2 + length first) (length second);
}

module _ (tag : ℕ) (s head first second : List ℕ) (framed : Framed tag s (head ++ two_texts first second)) where
  both : Part s (2 + length head) (two_texts first second)
  both =
      let b : List ℕ = head ++ two_texts first second in
      part_second head (two_texts first second) (record {
        front = tag ∷ length b ∷ [];
        back = [];
        whole = framed ∙ ap (λ l. tag ∷ length b ∷ l) (sym (append-nil b));
        place = refl;
      })

  texts_there : (k : ℕ) → length head ≡ k → let t = places k first second in
      (bytes_of s t.first ≡ first) × (bytes_of s t.second ≡ second)
  unfolding two_texts
  texts_there k l =
      let p : 2 + (k + 1) ≡ 2 + length head + 1 = omega arith in
      let q : 2 + (k + 2 + length first) ≡ 2 + length head + length (lengthed first) + 1 = omega arith in
      let one = part_second (length first ∷ []) first (part_first (lengthed first) (lengthed second) both) in
      let two = part_second (length second ∷ []) second (part_second (lengthed first) (lengthed second) both) in (
        ap (λ at. take (length first) (drop at s)) p ∙ part_taken one,
        ap (λ at. take (length second) (drop at s)) q ∙ part_taken two,
      )

-- ---- the number

kept_one : (n : ℕ) (b : List ℕ) → keptIn (one_number n) b ≡ number b ∷ []
unfolding keptIn unpack room
kept_one n b = let all : number b / 1 ≡ number b = omega arith in ap (λ v. v ∷ []) all

-- bytes that hold a number are its bytes
one_is : (n : ℕ) (b : List ℕ) → Bytes b → length b ≡ n → (v : ℕ) → keptIn (one_number n) b ≡ v ∷ []
    → (b ≡ ofNumber n v) × (v < 2 ^ (8 * n))
one_is n b bytes l v e =
    let same : number b ≡ v = ap (λ vs. get_or vs 0 0) (sym (kept_one n b) ∙ e) in (
      sym (of_number b bytes) ∙ ap₂ ofNumber l same,
      subst (λ m. v < 2 ^ (8 * m)) l (subst (λ u. u < 2 ^ (8 * length b)) same (number_below b bytes)),
    )

-- ---- both

-- s is a tag, a length, a number that n bytes hold, in n bytes, and two texts
abbrev pub Shown : ℕ → ℕ → List ℕ → ℕ → List ℕ → List ℕ → Type 0
Shown tag n s v first second = Framed tag s (numbered n v first second) × (v < 2 ^ (8 * n))

-- a reading finds the number and the texts exactly where they are shown
abbrev pub Finds : {F : Type 0} → ℕ → ℕ → (F → ℕ) → (F → List ℕ) → (F → List ℕ) → (List ℕ → Answered F) → Type 0
Finds tag n number first second read =
    (s : List ℕ) → Bytes s → (f : _) → read s ≡ value f ↔ Shown tag n s (number f) (first f) (second f)

module _ (tag n : ℕ) (s : List ℕ) (bytes : Bytes s) (v : ℕ) where
  bytes_filled : size (one_number n) ≡ n
  bytes_filled = omega arith

  pub holds_shown : (t : TwoTexts) → HoldsTexts tag (one_number n) s (v ∷ []) t
      → Shown tag n s v (bytes_of s t.first) (bytes_of s t.second)
  unfolding two_texts
  holds_shown t h =
      let x = h.texted in
      let bb : Bytes x.head = bytes_front x.head _ x.filled (body_bytes h.body h.framed bytes) in
      let number_is = one_is n x.head bb (x.size ∙ bytes_filled) v h.fields in
      let b : List ℕ = x.head ++ two_texts x.first x.second in
      let framed : Framed tag s b = subst (Framed tag s) x.filled h.framed in
      let there = texts_there tag s x.head x.first x.second framed (size (one_number n)) x.size in
      let one : bytes_of s t.first ≡ x.first = ap (λ u. bytes_of s u.first) x.places ∙ there.0 in
      let two : bytes_of s t.second ≡ x.second = ap (λ u. bytes_of s u.second) x.places ∙ there.1 in
      let same : b ≡ numbered n v (bytes_of s t.first) (bytes_of s t.second) =
      λ i. number_is.0 i ++ two_texts (sym one i) (sym two i) in
      (subst (Framed tag s) same framed, number_is.1)

  pub shown_held : (first second : List ℕ) → Shown tag n s v first second
      → (t : TwoTexts)
      × HoldsTexts tag (one_number n) s (v ∷ []) t
      × (bytes_of s t.first ≡ first)
      × (bytes_of s t.second ≡ second)
  unfolding two_texts
  shown_held first second x =
      let k : ℕ = size (one_number n) in
      let l : length (ofNumber n v) ≡ k = length_of n v ∙ sym bytes_filled in
      let there = texts_there tag s (ofNumber n v) first second x.0 k l in (
        places k first second,
        record {
          body = numbered n v first second;
          framed = x.0;
          texted = record {
            head = ofNumber n v;
            first = first;
            second = second;
            filled = refl;
            size = l;
            places = refl;
          };
          fields = kept_one n (ofNumber n v) ∙ ap (λ u. u ∷ []) (number-of n v x.1);
        },
        there.0,
        there.1,
      )

-- ---- written

module _ (tag n v : ℕ) (first second s : List ℕ) where
  abbrev body : List ℕ
  body = numbered n v first second

  pub written_shown : fields_written tag n v first second ≡ value s
      → Shown tag n s v first second × (size_of n first second ≤ 255)
  written_shown =
      fields_case tag n v first second
      (λ r. r ≡ value s → Shown tag n s v first second × (size_of n first second ≤ 255))
      (λ h l e. ((sym (value_is e), h), l)) (λ _ e. absurd (never (sym e))) (λ _ _ e. absurd (never (sym e)))

  module _ (shown : Shown tag n s v first second) where
    pub shown_written : Bytes s → fields_written tag n v first second ≡ value s
    shown_written bytes = written_inside tag n v first second shown.1 ∙ framed_headed tag body s shown.0 bytes

    pub texts_bytes : Bytes s → Bytes first × Bytes second
    unfolding two_texts
    texts_bytes bytes =
        let both : Bytes (two_texts first second) =
        bytes_behind (ofNumber n v) (two_texts first second) refl (body_bytes body shown.0 bytes) in (
          λ i. bytes_front (lengthed first) (lengthed second) refl both (suc i),
          λ i. bytes_behind (lengthed first) (lengthed second) refl both (suc i),
        )

    pub shown_bytes : tag < 256 → size_of n first second ≤ 255 → Bytes first → Bytes second → Bytes s
    unfolding two_texts
    shown_bytes byte short a b =
        framed_bytes tag body s shown.0 byte (let l = numbered_length n v first second in omega arith)
        (bytes_join (ofNumber n v) (two_texts first second) (of-bytes n v)
        (bytes_join (lengthed first) (lengthed second) (byte_more (length first) first (omega arith) a)
        (byte_more (length second) second (omega arith) b)))
