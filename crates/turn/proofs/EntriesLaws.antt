-- Laws of entries, turned either way.
use Prim.{tt}
use Prim.Native.Nat.{ℕ, suc, ◌+◌, ◌-◌, ◌*◌, ◌/◌, ◌%◌, ◌^◌, ◌<◌, ◌≤◌}
use mathlib.Core.Path.{◌≡◌, refl, sym, ap, ap₂, ◌∙◌, subst}
use mathlib.Core.List.{List, [], ◌∷◌, ◌++◌, append-nil}
use mathlib.Core.Logic.{◌⊎◌, inl, inr}
use mathlib.Core.Bool.{Bool, true, false, not}
use native.Mathlib.Omega.{arith}
use lib.ListN.{length, get_or, take, drop}
use Rattle.wire.specs.Bytes.{len12}
use Rattle.wire.specs.Number.{number_at}
use Rattle.wire.specs.Parts.{Part}
use Rattle.wire.proofs.PartLaws.{part_second, part_taken}
use Rattle.tables.specs.Tables.{cell, place}
use Rattle.forms.specs.Form.{Form, mute, each_show, EachOk}
use Rattle.forms.specs.Fields.{room, pack, sheet_field, sheet_fields}
use Rattle.forms.specs.Lists.{all, All, none, one, times, counted_show, loop_show}
use Rattle.forms.specs.Room.{put, sum}
use Rattle.forms.specs.Inner.Turning.{Turned}
use Rattle.forms.proofs.Puts.{sum_fits, put_put, length_put}
use Rattle.forms.proofs.Turns.{turned_nothing, turned_as, turned_zero, turned_suc}
use Rattle.sheet.specs.Content.{Entry, Entries, bare, entry_of, shape_of, side_of}
use Rattle.sheet.specs.Sheet.{sheet_entry, entries_for_by}
use Rattle.sheet.specs.Section.{section_entry}
use Rattle.tables.specs.declared.Table.{Table}
use Rattle.tables.specs.declared.Table.TheVariants.{Nit, Sdt, Bat, Eit, Tdt, Tot}
use Rattle.turn.specs.Inner.Fields.{Shape, running, bared}
use Rattle.turn.specs.Inner.Ways.{from, entry_from, entry_to, top_if, entries_from, withEntries, behind_own, own_size, ownPut, EntriesTurned, NumberIn, put_number}
use Rattle.contents.proofs.SectionLaws.{half_bare, no_more, entry_full}
use Rattle.contents.proofs.Accepted.{says}
use Rattle.turn.proofs.PieceLaws.{part_within, part_byte, part_first_byte, number_put}
use Rattle.forms.specs.declared.Place.{Place}

-- ---- what stands beside an entry's loop length

pub bare_side : (t : Table) → (t ≡ Nit) ⊎ ((t ≡ Bat) ⊎ (t ≡ Tot)) → Shape (side_of (place t)) 0 16
unfolding side_of shape_of cell
bare_side t (inl e) = subst (λ t. Shape (side_of (place t)) 0 16) (sym e) bared
bare_side t (inr (inl e)) = subst (λ t. Shape (side_of (place t)) 0 16) (sym e) bared
bare_side t (inr (inr e)) = subst (λ t. Shape (side_of (place t)) 0 16) (sym e) bared

pub status_side : (t : Table) → (t ≡ Nit → ⊥) → (t ≡ Bat → ⊥) → (t ≡ Tot → ⊥) → Shape (side_of (place t)) 8 16
unfolding side_of shape_of cell
status_side Nit f g h = absurd (f refl)
status_side Sdt f g h = running
status_side Bat f g h = absurd (g refl)
status_side Eit f g h = running
status_side Tdt f g h = running
status_side Tot f g h = absurd (h refl)

-- ---- so many entries: what the rest comes to, the whole comes to

module _ (b : Bool) (row number : ℕ) (s o : List ℕ) (p : Place) where
  -- i of them are behind
  pub record Turning (o' : List ℕ) (q : Place) (i : ℕ) : Type 0 where
    pub size : length o' ≡ length o
    pub rest : (r : Place) (o'' : List ℕ)
        → Turned (times (entry_from b row) (number - i)) (times (entry_to b row) (number - i)) s q o' r o''
        → Turned (times (entry_from b row) number) (times (entry_to b row) number) s p o r o''

  pub turning_begins : Turning o p 0
  turning_begins =
      let e : number - 0 ≡ number = omega arith in
      record {
        size = refl;
        rest = λ r o'' t. subst (λ n. Turned (times (entry_from b row) n) (times (entry_to b row) n) s p o r o'') e t;
      }

  pub turning_on : {q q' : Place} {o' o'' : List ℕ} {i : ℕ} → i < number → length o'' ≡ length o'
      → Turned (entry_from b row) (entry_to b row) s q o' q' o'' → Turning o' q i → Turning o'' q' (i + 1)
  turning_on {q} {q'} {o'} {o''} {i} some l t f =
      let e : suc (number - (i + 1)) ≡ number - i = omega arith in
      record {
        size = l ∙ f.size;
        rest = λ r x u.
            f.rest r x (subst (λ n. Turned (times (entry_from b row) n) (times (entry_to b row) n) s q o' r x) e
            (turned_suc (entry_from b row) (entry_to b row) (number - (i + 1)) t u));
      }

  pub turning_ends : {q : Place} {o' : List ℕ} {i : ℕ} → number ≤ i → Turning o' q i
      → Turned (times (entry_from b row) number) (times (entry_to b row) number) s p o q o'
  turning_ends {q} {o'} {i} ended f =
      let e : 0 ≡ number - i = omega arith in
      f.rest q o' (subst (λ n. Turned (times (entry_from b row) n) (times (entry_to b row) n) s q o' q o') e
      (turned_zero (entry_from b row) (entry_to b row)))

-- ---- what is shown of them

sheet_shown : (row : ℕ) (l : List Entry) → all (entry_from true row) l ≡ all (sheet_entry row) l
unfolding all
sheet_shown row [] = refl
sheet_shown row (e ∷ l) = ap (λ z. (sheet_entry row).show e ++ z) (sheet_shown row l)

-- the number that stands before them
number_read : (row : ℕ) (s : List ℕ) (at : ℕ) (es : List Entry) → length es < 65536 → Part s at (counted_show (sheet_entry row) es)
    → number_at 2 s at ≡ length es
unfolding counted_show number_at
number_read row s at es h w =
    let k : ℕ = length es in
    let i : get_or s at 0 ≡ k / 256 = part_first_byte (counted_show (sheet_entry row) es) w (omega arith) in
    let j : get_or s (at + 1) 0 ≡ k % 256 = part_byte (counted_show (sheet_entry row) es) w 1 (omega arith) in
    omega arith

-- ---- the length of their own

-- reserved bits as ones
beside_ones : (vs : List ℕ) → (sheet_fields bare).Ok vs → pack bare vs ≡ 15
unfolding EachOk pack room
beside_ones [] o = absurd o
beside_ones (v ∷ []) o = let e = o.0 in omega arith
beside_ones (v ∷ w ∷ vs) o = absurd o.1

-- they are no byte of a sheet
bare_shown : (vs : List ℕ) → (sheet_fields bare).show vs ≡ []
unfolding each_show
bare_shown [] = refl
bare_shown (v ∷ vs) = refl

both_ok : (row : ℕ) (es : List Entry) → All (sheet_entry row) es → All (section_entry row) es → All (entry_from true row) es
both_ok row [] none none = none
both_ok row (e ∷ es) (one o os) (one u us) = one (o.0, (o.1, u.1)) (both_ok row es os us)

-- what is shown of entries that a section can hold, by whether they have a length of their own
module _ (row : ℕ) (e : Entries) where
  abbrev sheets : Bool → Form Entries
  sheets top = entries_for_by sheet_field (withEntries top) row

  abbrev sections : Bool → Form Entries
  sections top = entries_from false (withEntries top) row

  abbrev body : List ℕ
  body = all (section_entry row) e.1

  held : (top : Bool) → (sections top).Ok e → ((sheets top).show e ≡ counted_show (sheet_entry row) e.1) × All (section_entry row) e.1
  unfolding each_show
  held true o = (ap (λ l. l ++ counted_show (sheet_entry row) e.1) (bare_shown e.0), o.2)
  held false o = (refl, o.1.1)

  counted : (top : Bool) → (sheets top).Ok e → (length e.1 < 65536) × All (sheet_entry row) e.1
  counted true o = o.1
  counted false o = o.1

  -- entries put behind their length, where they have one, are put with it
  own_put : (top : Bool) (o : List ℕ) (to end : ℕ) → length o < 2 ^ 64 → (sheets top).Ok e → to + length ((sections top).show e) ≡ end
      → end ≤ 4096 → end ≤ length o
      → (behind_own top to + length body ≡ end) × (length (ownPut top o to end) ≡ length o)
      × (put (ownPut top o to end) (behind_own top to) body ≡ put o to ((sections top).show e))
  unfolding loop_show
  own_put true o to end lo ok i small f =
      let N : ℕ = length body in
      let behind : sum to 2 ≡ to + 2 = sum_fits to 2 (omega arith) in
      let left : end - sum to 2 ≡ N = omega arith in
      let v : ℕ = 0xF000 + N in
      let u : List ℕ = v / 256 % 256 ∷ v % 256 ∷ [] in
      let iv : sum 0xF000 (end - sum to 2) ≡ v = ap (sum 0xF000) left ∙ sum_fits 0xF000 N (omega arith) in
      let put₁ : put_number o to (sum 0xF000 (end - sum to 2)) ≡ put o to u = ap (put_number o to) iv ∙ number_put
      o to v lo (omega arith) in
      let ones = beside_ones e.0 ok.0 in
      let high : v / 256 % 256 ≡ pack bare e.0 * 16 + N / 256 = omega arith in
      let low : v % 256 ≡ N % 256 = omega arith in (
        omega arith,
        ap length put₁ ∙ length_put o to u (omega arith),
        ap₂ (λ i j. put i j body) put₁ behind
            ∙ put_put o to u (omega arith) body (omega arith)
            ∙ ap₂ (λ i j. put o to (i ∷ j ∷ body)) high low,
      )
  own_put false o to end lo ok i small f = (i, refl, refl)

  -- where a section has entries, and how many bytes they are
  own_read : (top : Bool) (s : List ℕ) (at end : ℕ) → length s < 2 ^ 64 → (sections top).Ok e → Part s at ((sections top).show e)
      → at + length ((sections top).show e) ≡ end
      → Part s (behind_own top at) body × (own_size top s at end ≡ length body) × (behind_own top at + length body ≡ end)
  unfolding loop_show
  own_read true s at end ls ok w i =
      let N : ℕ = length body in
      let a : ℕ = pack bare e.0 * 16 + N / 256 in
      let b : ℕ = N % 256 in
      let within = part_within (a ∷ b ∷ body) w in
      let behind : sum at 2 ≡ at + 2 = sum_fits at 2 (omega arith) in (
        subst (λ k. Part s k body) (sym behind) (part_second (a ∷ b ∷ []) body w),
        ap₂ len12 (part_first_byte (a ∷ b ∷ body) w (omega arith)) (part_byte (a ∷ b ∷ body) w 1 (omega arith))
            ∙ says (section_entry row) bare half_bare e ok,
        omega arith,
      )
  own_read false s at end ls ok w i = (w, omega arith, i)

-- that length is put
pub own_written : (top : Bool) (o : List ℕ) (to end : ℕ) {o' : List ℕ} {i j v : ℕ} → top ≡ true → i ≡ sum to 2 → j ≡ end - i
    → v ≡ sum 0xF000 j → o' ≡ put_number o to v → o' ≡ ownPut top o to end
own_written top o to end e hi hj hv h = rw e (h ∙ ap (put_number o to) (hv ∙ ap (sum 0xF000) (hj ∙ ap (λ i. end - i) hi)))

-- ---- entries either way; z is the place of the first of them, x the room before they are written

module _ {s o : List ℕ} (ls : length s < 2 ^ 64) (lo : length o < 2 ^ 64) (top : Bool) (row : ℕ) {p q z : Place} {x o' : List ℕ} where
  pub entries_forth : {end number : ℕ} → number ≡ number_at 2 s p.at → z.at ≡ sum p.at 2 → z.to ≡ behind_own top p.to
      → x ≡ ownPut top o p.to end → Turned (times (entry_from true row) number) (times (entry_to true row) number) s z x q o'
      → EntriesTurned true (withEntries top) row s p end o q o'
  unfolding counted_show
  entries_forth {end} {number} hn ha ht hx t = record {
    turned = λ e k v f i small.
        let es = e.1 in
        let body = all (sheet_entry row) es in
        let h = held row e top k.1 in
        let w = subst (Part s p.at) h.0 v in
        let few = (counted row e top k.0).0 in
        let n = part_within (counted_show (sheet_entry row) es) w in
        let own = own_put row e top o p.to end lo k.0 i small (omega arith) in
        let a : z.at ≡ p.at + 2 = ha ∙ sum_fits p.at 2 (omega arith) in
        let j : length es ≡ number = sym (hn ∙ number_read row s p.at es few w) in
        let wb : Part s z.at body =
        subst (λ k. Part s k body) (sym a) (part_second (length es / 256 ∷ length es % 256 ∷ []) body w) in
        let lx : length x ≡ length o = ap length hx ∙ own.1 in
        let ends : z.to + length (all (section_entry row) es) ≡ end = ap (λ k. k + length (all (section_entry row) es)) ht ∙ own.0 in
        let d = t.turned es (j, both_ok row es (counted row e top k.0).1 h.1)
        (subst (Part s z.at) (sym (sheet_shown row es)) wb) (omega arith) in
        let m = ap length h.0 in
        record {
          room = d.room ∙ ap₂ (λ j k. put j k (all (section_entry row) es)) hx ht ∙ own.2;
          read = d.read ∙ ap (λ l. z.at + length l) (sheet_shown row es) ∙ omega arith;
          written = d.written ∙ ends ∙ sym i;
        };
  }

  pub entries_back : {end k n : ℕ} {l : List ℕ} → n ≡ own_size top s p.at end → l ≡ take n (drop z.at s)
      → NumberIn (section_entry row) l k → z.at ≡ behind_own top p.at → z.to ≡ sum p.to 2 → x ≡ put_number o p.to k
      → Turned (times (entry_from false row) k) (times (entry_to false row) k) s z x q o'
      → EntriesTurned false (withEntries top) row s p end o q o'
  unfolding counted_show
  entries_back {end} {k} {n} hn hl hk ha ht hx t = record {
    turned = λ e ok w f i small.
        let es = e.1 in
        let body = all (sheet_entry row) es in
        let h = held row e top ok in
        let own = own_read row e top s p.at end ls ok w i in
        let far = own.2 in
        let m = ap length h.0 in
        let few = no_more (section_entry row) (entry_full row) es h.1 in
        let ik : k ≡ length es =
        hk es h.1 (sym (hl ∙ ap₂ (λ i j. take i (drop j s)) (hn ∙ own.1) ha ∙ part_taken own.0)) in
        let to : z.to ≡ p.to + 2 = ht ∙ sum_fits p.to 2 (omega arith) in
        let high : k / 256 % 256 ≡ length es / 256 = omega arith in
        let low : k % 256 ≡ length es % 256 = omega arith in
        let u : List ℕ = k / 256 % 256 ∷ k % 256 ∷ [] in
        let put₁ : x ≡ put o p.to u = hx ∙ number_put o p.to k lo (omega arith) in
        let lx : length x ≡ length o = ap length put₁ ∙ length_put o p.to u (omega arith) in
        let shown = sheet_shown row es in
        let ls' = ap length shown in
        let d = t.turned es (sym ik, h.1) (subst (λ j. Part s j (all (section_entry row) es)) (sym ha) own.0) (omega arith) in
        record {
          room =
              d.room ∙ ap₂ (λ i j. put x i j) to shown ∙ ap (λ i. put i (p.to + 2) body) put₁
              ∙ put_put o p.to u (omega arith) body (omega arith)
              ∙ ap₂ (λ i j. put o p.to (i ∷ j ∷ body)) high low ∙ ap (put o p.to) (sym h.0);
          read = d.read ∙ ap (λ j. j + length (all (section_entry row) es)) ha ∙ own.2 ∙ sym i;
          written = d.written ∙ omega arith;
        };
  }

-- ---- nothing

-- no byte is turned into none
pub none_turned : {A : Type 0} (v : A) {s o : List ℕ} {p : Place} (b : Bool)
    → Turned (from b (mute v) (mute v)) (from (not b) (mute v) (mute v)) s p o p o
none_turned v {s} {o} {p} true = turned_nothing (from true (mute v) (mute v)) (mute v) s p o (λ a k. (refl, refl))
none_turned v {s} {o} {p} false = turned_nothing (mute v) (from true (mute v) (mute v)) s p o (λ a k. (refl, refl))

-- ---- the top loop

-- an entry without fields is its loop
pub top_turned : {s o o' : List ℕ} {p q : Place} (b t : Bool) → t ≡ true
    → Turned (times (entry_from b 5) 1) (times (entry_to b 5) 1) s p o q o' → Turned (top_if b t) (top_if (not b) t) s p o q o'
unfolding side_of shape_of entry_of cell all each_show EachOk
top_turned {s} {o} {o'} {p} {q} b t e u =
    subst (λ x. Turned (top_if b x) (top_if (not b) x) s p o q o') (sym e)
    (turned_as (λ l k. (([], l) ∷ [], (refl, one (tt, k) none), sym (append-nil _), sym (append-nil _))) u)
