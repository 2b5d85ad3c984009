-- Laws of loops of descriptors, turned either way.
use Prim.Native.Nat.{ℕ, ◌+◌, ◌*◌, ◌/◌, ◌%◌, ◌^◌, ◌<◌}
use mathlib.Core.Path.{◌≡◌, sym, ap, ap₂, ◌∙◌, subst}
use mathlib.Core.List.{List, [], ◌∷◌, ◌++◌}
use mathlib.Core.Bool.{true, false}
use native.Mathlib.Omega.{arith}
use lib.ListN.{length, get_or, take, drop, length-append}
use Rattle.wire.specs.Bytes.{len12, len12_at}
use Rattle.wire.specs.Parts.{Part}
use Rattle.wire.proofs.PartLaws.{part_first, part_second, part_taken}
use Rattle.forms.specs.Form.{raw}
use Rattle.forms.specs.Fields.{Field, pack, sheet_fields}
use Rattle.forms.specs.Lists.{all, counted_show, loop_show}
use Rattle.forms.specs.Room.{put, sum}
use Rattle.forms.specs.Inner.Turning.{Turned}
use Rattle.forms.proofs.Puts.{sum_fits, put_put, length_put}
use Rattle.sheet.specs.Sheet.{descriptor}
use Rattle.turn.specs.Inner.Fields.{Shape, kept_size, joined_at, parted_of, Parted}
use Rattle.turn.specs.Inner.Ways.{NumberIn, SizeAt, put_number, Numbered, LoopTurned, loop_from}
use Rattle.contents.proofs.SectionLaws.{no_more, descriptor_full}
use Rattle.contents.proofs.Accepted.{says}
use Rattle.turn.proofs.PieceLaws.{part_within, part_byte, part_first_byte, number_put, shape_room, packed_small, fields_shown, fields_size_lem, fields_joined}
use Rattle.forms.specs.declared.Place.{Place}

-- a number of two bytes, and bytes behind it; z is their place
pub numbered_done : {s o : List ℕ} → length o < 2 ^ 64 → {p q z : Place} {number n : ℕ} {o₁ o' : List ℕ} → z.at ≡ p.at
    → z.to ≡ sum p.to 2 → o₁ ≡ put_number o p.to number → Turned (raw n) (raw n) s z o₁ q o' → Numbered number n s p o q o'
numbered_done {s} {o} lo {p} {q} {z} {number} {n} {o₁} ha hb h₁ t = record {
  turned = λ l e small w f.
      let u : List ℕ = number / 256 ∷ number % 256 ∷ [] in
      let high : number / 256 % 256 ≡ number / 256 = omega arith in
      let put₁ : o₁ ≡ put o p.to u =
      h₁ ∙ number_put o p.to number lo (omega arith) ∙ ap (λ i. put o p.to (i ∷ number % 256 ∷ [])) high in
      let l₁ : length o₁ ≡ length o = ap length put₁ ∙ length_put o p.to u (omega arith) in
      let to : z.to ≡ p.to + 2 = hb ∙ sum_fits p.to 2 (omega arith) in
      let d = t.turned l e (subst (λ i. Part s i l) (sym ha) w) (omega arith) in
      record {
        room = d.room ∙ ap₂ (λ i j. put i j l) put₁ to ∙ put_put o p.to u (omega arith) l (omega arith);
        read = d.read ∙ omega (arith, ha);
        written = d.written ∙ omega arith;
      };
}

module _ {s o : List ℕ} (ls : length s < 2 ^ 64) (lo : length o < 2 ^ 64) {p q : Place} {o' : List ℕ} {span : ℕ} where
  -- to a section: `at` is the place of the number of descriptors, n are their bytes
  pub loop-forth : {at n v from kept joined : ℕ} → kept ≡ kept_size span → at ≡ sum p.at kept → SizeAt s at n → from ≡ sum at 2
      → joined ≡ joined_at span s p.at → v ≡ sum (joined % 16 * 4096) n → Numbered v n s (record { at = from; to = p.to }) o q o'
      → LoopTurned true span s p o q o'
  unfolding counted_show loop_show
  loop-forth {at} {n} {v} {from} hkept hat hn hf hj hv d = record { turned = all_fields }
    where
      all_fields : {fs : List Field} → Shape fs span 16 → Turned (loop_from true fs) (loop_from false fs) s p o q o'
      all_fields {fs} sh = record {
        turned = λ a k w f.
            let vs = a.0 in
            let ds = a.1 in
            let x = (sheet_fields fs).show vs in
            let c = counted_show descriptor ds in
            let body = all descriptor ds in
            let N : ℕ = length body in
            let within = part_within (x ++ c) w in
            let lx = length-append x c in
            let size = fields_size_lem sh vs k.1.0 in
            let iat : at ≡ p.at + length x = hat ∙ ap (sum p.at) (hkept ∙ sym size) ∙ sum_fits p.at (length x) (omega arith) in
            let wc : Part s at c = subst (λ j. Part s j c) (sym iat) (part_second x c w) in
            let iN : n ≡ N = hn ds k.0.1.1 k.0.1.0 wc in
            let fields = fields_joined ls sh vs k.0.0 (part_first x c w) in
            let small = packed_small sh vs k.1.0 in
            let kN = k.1.1 in
            let iv : v ≡ pack fs vs * 4096 + N =
            hv ∙ ap₂ (λ i j. sum (i * 4096) j) (ap (λ j. j % 16) hj ∙ fields) iN ∙ sum_fits (pack fs vs * 4096) N (omega arith) in
            let behind : from ≡ at + 2 = hf ∙ sum_fits at 2 (omega arith) in
            let wb = part_second (length ds / 256 ∷ length ds % 256 ∷ []) body wc in
            let t = d.turned body (sym iN) (omega arith) (subst (λ j. Part s j body) (sym behind) wb) (omega arith) in
            let high : v / 256 ≡ pack fs vs * 16 + N / 256 = omega arith in
            let low : v % 256 ≡ N % 256 = omega arith in
            record {
              room = t.room ∙ ap₂ (λ i j. put o p.to (i ∷ j ∷ body)) high low;
              read = t.read ∙ omega arith;
              written = t.written;
            };
      }

  -- to a sheet: n is the loop's length, k the number of its descriptors
  pub loop-back : {n k from to b kept : ℕ} {l o₁ : List ℕ} → n ≡ len12_at s p.at → from ≡ sum p.at 2 → kept ≡ kept_size span
      → to ≡ sum p.to kept → l ≡ take n (drop from s) → NumberIn descriptor l k → b ≡ get_or s p.at 0
      → Parted span (b / 16) o p.to o₁ → Numbered k n s (record { at = from; to = to }) o₁ q o' → LoopTurned false span s p o q o'
  unfolding counted_show loop_show
  loop-back {n} {k} {from} {to} {b} {o₁ = o₁} hn hf hkept ht hl hk hb hp d = record { turned = all_fields }
    where
      all_fields : {fs : List Field} → Shape fs span 16 → Turned (loop_from false fs) (loop_from true fs) s p o q o'
      all_fields {fs} sh = record {
        turned = λ a ok w f.
            let vs = a.0 in
            let ds = a.1 in
            let u = (sheet_fields fs).show vs in
            let body = all descriptor ds in
            let N : ℕ = length body in
            let x : ℕ = pack fs vs * 16 + N / 256 in
            let y : ℕ = N % 256 in
            let within = part_within (x ∷ y ∷ body) w in
            let bx : get_or s p.at 0 ≡ x = part_first_byte (x ∷ y ∷ body) w (omega arith) in
            let by : get_or s (p.at + 1) 0 ≡ y = part_byte (x ∷ y ∷ body) w 1 (omega arith) in
            let kN = ok.1 in
            let iN : n ≡ N = hn ∙ ap₂ len12 bx by ∙ says descriptor fs (shape_room sh) a ok in
            let behind : from ≡ p.at + 2 = hf ∙ sum_fits p.at 2 (omega arith) in
            let wb : Part s from body = subst (λ j. Part s j body) (sym behind) (part_second (x ∷ y ∷ []) body w) in
            let ik : k ≡ length ds = hk ds ok.2 (sym (hl ∙ ap (λ i. take i (drop from s)) iN ∙ part_taken wb)) in
            let few = no_more descriptor descriptor_full ds ok.2 in
            let lu = length-append u (counted_show descriptor ds) in
            let size = fields_size_lem sh vs ok.0 in
            let fields : b / 16 ≡ pack fs vs = omega (arith, hb) in
            let put₁ : o₁ ≡ put o p.to u =
            hp (omega arith) ∙ ap (put o p.to) (ap (parted_of span) fields ∙ sym (fields_shown sh vs ok.0)) in
            let l₁ : length o₁ ≡ length o = ap length put₁ ∙ length_put o p.to u (omega arith) in
            let to_is : to ≡ p.to + length u = ht ∙ ap (sum p.to) (hkept ∙ sym size) ∙ sum_fits p.to (length u) (omega arith) in
            let v : List ℕ = k / 256 ∷ k % 256 ∷ body in
            let t = d.turned body (sym iN) (omega arith) wb (omega arith) in
            let written = t.written in
            record {
              room =
                  t.room ∙ ap₂ (λ i j. put i j v) put₁ to_is
                  ∙ put_put o p.to u (omega arith) v (omega arith)
                  ∙ ap (λ i. put o p.to (u ++ (i / 256 ∷ i % 256 ∷ body))) ik;
              read = t.read ∙ omega arith;
              written = t.written ∙ omega arith;
            };
      }
