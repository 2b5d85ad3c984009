-- Laws of reading a sheet from left to right, by places: what each part's answer says of the whole.
use Prim.Native.Nat.{ℕ, zero, suc, ◌+◌, ◌-◌, ◌^◌, ◌≤◌, ◌<◌}
use mathlib.Core.Path.{◌≡◌, refl, sym, ap, ap₂, ◌∙◌, subst}
use mathlib.Core.Logic.{◌⊎◌, inl, inr}
use mathlib.Core.Bool.{Bool, true, false}
use mathlib.Core.List.{List, [], ◌∷◌}
use native.Mathlib.Omega.{arith}
use borrow.Author.Tests.{le-leb, lt-leb, lt-ltb, le-ltb}
use lib.ListN.{length, get_or, take, drop, length-drop}
use lib.Seq.{drop-drop, get_or-take, get_or-drop}
use lib.Dec.{ltb, leb}
use Rattle.std.specs.Prelude.{if◌then◌else◌, Ok, Err}
use Rattle.std.specs.Result.{IsErrAnd}
use Rattle.std.proofs.lemmas.Result.{err_from_is_err_and}
use Rattle.wire.specs.Number.{number, number_at}
use Rattle.wire.specs.Reading.{value, refused, ◌>>=◌}
use Rattle.wire.proofs.PartLaws.{two_front}
use Rattle.tables.specs.Tables.{cell, place}
use Rattle.tables.specs.declared.Table.{Table}
use Rattle.tables.specs.declared.Table.TheVariants.{Nit, Sdt, Bat, Eit, Tdt, Tot}
use Rattle.forms.specs.Form.{Form, mute, raw_read, raw, both_read, ◌then◌, such_read, such, each_read, each}
use Rattle.forms.specs.Fields.{kept, reserved, below_read, below, sheet_field, sheet_fields}
use Rattle.forms.specs.Lists.{times_read, times, counted_read, counted}
use Rattle.forms.proofs.Lawful.{read_on, stays}
use Rattle.sheet.specs.Content.{Item, plain, numbers, version, flags, filler, bare, status, frame, common, head_of, entry_of, shape_of, has_top, side_of, Entries}
use Rattle.sheet.specs.Sheet.{inOrder, sheet_item, descriptor_read, descriptor, sheet_loop, sheet_entry, sheet_top, sheet_entries}
use Rattle.sheet.specs.Inner.Places.{Ends, Reached, Reads, Follows, Common}
use Rattle.sheet.specs.declared.Fault.{Fault}
use Rattle.sheet.specs.declared.Fault.TheVariants.{EndsEarly, TooWide}
use Rattle.wire.specs.If.{choose◌then◌else◌}

-- ---- one behind the other

-- h reads what c reads, and then what d reads
module _ {A B C : Type 0} (c : Form A) (d : Form B) (h : Form C) (g : A → B → C)
    (by : (s : List ℕ) → h.read s ≡ (c.read s >>= λ a. d.read a.1 >>= λ b. value (g a.0 b.0, b.1))) {s : List ℕ} {a : ℕ} where
  reads_both : (b : ℕ) (r : Reached) → Ends c s a b → Reads d s b r → Reads h s a r
  reads_both b (Ok e) i j = record {
    value_read = g i.value_read j.value_read;
    reads = by (drop a s) ∙ read_on _ i.reads ∙ read_on _ j.reads;
    from = let f = i.from in let k = j.from in omega arith;
    within = j.within;
  }
  reads_both b (Err f) i j = by (drop a s) ∙ read_on _ i.reads ∙ stays _ j

  both : {b : ℕ} {r : Reached} → Follows c s a (Ok b) → Follows d s b r → Follows h s a r
  both {b} {r} p q = record { onward = λ w. let i = p.onward w in reads_both b r i (q.onward i.within) }

  stopped : {f : Fault} → Follows c s a (Err f) → Follows h s a (Err f)
  stopped p = record { onward = λ w. by (drop a s) ∙ stays _ (p.onward w) }

-- h reads no byte
module _ {A : Type 0} (h : Form A) (v : A) (by : (s : List ℕ) → h.read s ≡ value (v, s)) {s : List ℕ} {a : ℕ} where
  nothing : Follows h s a (Ok a)
  nothing = record { onward = λ w. record { value_read = v; reads = by (drop a s); from = omega arith; within = w } }

-- what is known of the answer
pub told_so : {A : Type 0} {c : Form A} {s : List ℕ} {a : ℕ} {x r : Reached} → x ≡ r → Follows c s a x → Follows c s a r
told_so {c = c} {s} {a} e h = subst (Follows c s a) e h

-- the refusal is handed on
same_fault : (r : Reached) {f : Fault} → IsErrAnd r (λ e. e ≡ f) → Err f ≡ r
same_fault r h = let p = err_from_is_err_and r h in sym (p.1 ∙ ap Err p.2)

module _ {A B : Type 0} (c : Form A) (d : Form B) {s : List ℕ} {a : ℕ} {x r : Reached} where
  pub then_on : {b : ℕ} → x ≡ Ok b → Follows c s a x → Follows d s b r → Follows (c then d) s a r
  unfolding both_read
  then_on e p q = both c d (c then d) (λ a b. (a, b)) (λ s. refl) (told_so e p) q

  pub then_stopped : {f : Fault} → x ≡ Err f → IsErrAnd r (λ e. e ≡ f) → Follows c s a x → Follows (c then d) s a r
  unfolding both_read
  then_stopped e h p = told_so (same_fault r h) (stopped c d (c then d) (λ a b. (a, b)) (λ s. refl) (told_so e p))

pub follows_mute : {A : Type 0} (v : A) {s : List ℕ} {a : ℕ} → Follows (mute v) s a (Ok a)
follows_mute v = nothing (mute v) v (λ s. refl)

module _ {X A : Type 0} (f : X → Form A) {s : List ℕ} {a : ℕ} where
  pub follows_nil : Follows (each f []) s a (Ok a)
  unfolding each_read
  follows_nil = nothing (each f []) [] (λ s. refl)

module _ {X A : Type 0} (f : X → Form A) (y : X) (l : List X) {s : List ℕ} {a : ℕ} {x r : Reached} where
  pub cons_on : {b : ℕ} → x ≡ Ok b → Follows (f y) s a x → Follows (each f l) s b r → Follows (each f (y ∷ l)) s a r
  unfolding each_read
  cons_on e p q = both (f y) (each f l) (each f (y ∷ l)) (λ b m. b ∷ m) (λ s. refl) (told_so e p) q

  pub cons_stopped : {e : Fault} → x ≡ Err e → IsErrAnd r (λ k. k ≡ e) → Follows (f y) s a x → Follows (each f (y ∷ l)) s a r
  unfolding each_read
  cons_stopped e h p =
      told_so (same_fault r h) (stopped (f y) (each f l) (each f (y ∷ l)) (λ b m. b ∷ m) (λ s. refl) (told_so e p))

pub follows_one : {X A : Type 0} (f : X → Form A) (y : X) {s : List ℕ} {a : ℕ} (r : Reached) → Follows (f y) s a r
    → Follows (each f (y ∷ [])) s a r
follows_one f y (Ok b) h = cons_on f y [] refl h (follows_nil f)
follows_one f y (Err e) h = cons_stopped f y [] refl (refl) h

module _ {A : Type 0} (c : Form A) {s : List ℕ} {a : ℕ} where
  pub follows_zero : Follows (times c 0) s a (Ok a)
  unfolding times_read
  follows_zero = nothing (times c 0) [] (λ s. refl)

  pub follows_suc : (k : ℕ) {b : ℕ} {r : Reached} → Follows c s a (Ok b) → Follows (times c k) s b r
      → Follows (times c (suc k)) s a r
  unfolding times_read
  follows_suc k = both c (times c k) (times c (suc k)) (λ b m. b ∷ m) (λ s. refl)

  stopped_suc : (k : ℕ) {f : Fault} → Follows c s a (Err f) → Follows (times c (suc k)) s a (Err f)
  unfolding times_read
  stopped_suc k = stopped c (times c k) (times c (suc k)) (λ b m. b ∷ m) (λ s. refl)

-- ---- bytes at a place

module _ (s : List ℕ) (at : ℕ) where
  raw_whole : (n : ℕ) → at + n ≤ length s → raw_read n (drop at s) ≡ value (take n (drop at s), drop (at + n) s)
  unfolding raw_read
  raw_whole n h =
      let l = length-drop at s in
      rw (le-leb n (length (drop at s)) (omega arith), drop-drop n at s)

  raw_short : (n : ℕ) → length s - at < n → raw_read n (drop at s) ≡ refused 22
  unfolding raw_read
  raw_short n h =
      let l = length-drop at s in
      rw (lt-leb n (length (drop at s)) (omega arith))

  byte_front : (n i : ℕ) → i < n → get_or (take n (drop at s)) i 0 ≡ get_or s (at + i) 0
  byte_front n i h = get_or-take n (drop at s) i 0 h ∙ get_or-drop at s i 0

  pub reads_raw : (n : ℕ) → n ≤ length s - at → Follows (raw n) s at (Ok (at + n))
  reads_raw n h = record {
    onward = λ w.
        record {
          value_read = take n (drop at s);
          reads = raw_whole n (omega arith);
          from = omega arith;
          within = omega arith;
        };
  }

  pub early_raw : (n : ℕ) → length s - at < n → Follows (raw n) s at (Err EndsEarly)
  early_raw n h = record { onward = λ w. raw_short n h }

  -- ---- a byte below n

  module _ (n : ℕ) where
    first_byte : at + 1 ≤ length s
        → below_read n (drop at s) ≡ (if ltb (get_or s at 0) n then value (get_or s at 0, drop (at + 1) s) else refused 24)
    unfolding below_read
    first_byte h =
        let e : at + 0 ≡ at = omega arith in
        let b : get_or (take 1 (drop at s)) 0 0 ≡ get_or s at 0 = byte_front 1 0 (omega arith) ∙ ap (λ k. get_or s k 0) e in
        read_on _ (raw_whole 1 h) ∙ ap (λ (b : ℕ). if ltb b n then value (b, drop (at + 1) s) else refused 24) b

    pub reads_below : at < length s → get_or s at 0 < n → Follows (below n) s at (Ok (at + 1))
    reads_below h g =
        record {
          onward = λ w.
              record {
                value_read = get_or s at 0;
                reads = first_byte (omega arith) ∙ rw (lt-ltb (get_or s at 0) n g);
                from = omega arith;
                within = omega arith;
              };
        }

    pub wide_below : at < length s → n ≤ get_or s at 0 → Follows (below n) s at (Err TooWide)
    wide_below h g = record { onward = λ w. first_byte (omega arith) ∙ rw (le-ltb (get_or s at 0) n g) }

    pub early_below : length s ≤ at → Follows (below n) s at (Err EndsEarly)
    unfolding below_read
    early_below h = record { onward = λ w. stays _ (raw_short 1 (omega arith)) }

  -- ---- section_number and last_section_number

  two_bytes : at + 2 ≤ length s
      → such_read (raw 2) 24 inOrder (drop at s)
      ≡ (if leb (get_or s at 0) (get_or s (at + 1) 0) then value (take 2 (drop at s), drop (at + 2) s) else refused 24)
  unfolding such_read
  two_bytes h =
      let e : at + 0 ≡ at = omega arith in
      let a : get_or (take 2 (drop at s)) 0 0 ≡ get_or s at 0 = byte_front 2 0 (omega arith) ∙ ap (λ k. get_or s k 0) e in
      let b : get_or (take 2 (drop at s)) 1 0 ≡ get_or s (at + 1) 0 = byte_front 2 1 (omega arith) in
      read_on _ (raw_whole 2 h)
      ∙ ap₂ (λ (a b : ℕ). if leb a b then value (take 2 (drop at s), drop (at + 2) s) else refused 24) a b

  pub reads_numbers : 2 ≤ length s - at → get_or s at 0 ≤ get_or s (at + 1) 0
      → Follows (such (raw 2) 24 inOrder) s at (Ok (at + 2))
  reads_numbers h g =
      record {
        onward = λ w.
            record {
              value_read = take 2 (drop at s);
              reads = two_bytes (omega arith) ∙ rw (le-leb (get_or s at 0) (get_or s (at + 1) 0) g);
              from = omega arith;
              within = omega arith;
            };
      }

  pub wide_numbers : 2 ≤ length s - at → get_or s (at + 1) 0 < get_or s at 0
      → Follows (such (raw 2) 24 inOrder) s at (Err TooWide)
  wide_numbers h g = record { onward = λ w. two_bytes (omega arith) ∙ rw (lt-leb (get_or s at 0) (get_or s (at + 1) 0) g) }

  pub early_numbers : length s - at < 2 → Follows (such (raw 2) 24 inOrder) s at (Err EndsEarly)
  unfolding such_read
  early_numbers h = record { onward = λ w. stays _ (raw_short 2 h) }

-- ---- a descriptor at a place

module _ (s : List ℕ) (at : ℕ) where
  size_front : get_or (take 2 (drop at s)) 1 0 ≡ get_or s (at + 1) 0
  size_front = byte_front s at 2 1 (omega arith)

  pub reads_descriptor : 2 + get_or s (at + 1) 0
      ≤ length s - at → Follows descriptor s at (Ok (at + 2 + get_or s (at + 1) 0))
  unfolding descriptor_read
  reads_descriptor h =
      let n : ℕ = get_or s (at + 1) 0 in
      record {
        onward = λ w.
            record {
              value_read = record { tag = get_or (take 2 (drop at s)) 0 0; body = take n (drop (at + 2) s) };
              reads =
                  read_on _ (raw_whole s at 2 (omega arith))
                  ∙ read_on _ (ap (λ k. raw_read k (drop (at + 2) s)) size_front ∙ raw_whole s (at + 2) n (omega arith));
              from = omega arith;
              within = omega arith;
            };
      }

  pub early_descriptor : length s - at < 2 → Follows descriptor s at (Err EndsEarly)
  unfolding descriptor_read
  early_descriptor h = record { onward = λ w. stays _ (raw_short s at 2 h) }

  pub early_body : 2 ≤ length s - at → length s - at - 2 < get_or s (at + 1) 0 → Follows descriptor s at (Err EndsEarly)
  unfolding descriptor_read
  early_body h g =
      let n : ℕ = get_or s (at + 1) 0 in
      record {
        onward = λ w. read_on _ (raw_whole s at 2 (omega arith))
            ∙ stays _ (ap (λ k. raw_read k (drop (at + 2) s)) size_front ∙ raw_short s (at + 2) n (omega arith));
      }

-- ---- a list after the number of its items

module _ {A : Type 0} (c : Form A) (s : List ℕ) (at : ℕ) where
  count_front : at + 2 ≤ length s → number (take 2 (drop at s)) ≡ number_at 2 s at
  unfolding number_at
  count_front h = ap (λ l. number (take 2 l)) (two_front s at h)

  counted_whole : at + 2 ≤ length s → counted_read c (drop at s) ≡ times_read c (number_at 2 s at) (drop (at + 2) s)
  unfolding counted_read
  counted_whole h = read_on _ (raw_whole s at 2 h) ∙ ap (λ k. times_read c k (drop (at + 2) s)) (count_front h)

  counted_onward : at + 2 ≤ length s → (r : Reached) → Reads (times c (number_at 2 s at)) s (at + 2) r
      → Reads (counted c) s at r
  counted_onward h (Ok e) p =
      let f = p.from in
      record { value_read = p.value_read; reads = counted_whole h ∙ p.reads; from = omega arith; within = p.within }
  counted_onward h (Err f) p = counted_whole h ∙ p

  pub follows_counted : {k : ℕ} {r : Reached}
      → 2 ≤ length s - at → k ≡ number_at 2 s at → Follows (times c k) s (at + 2) r
      → Follows (counted c) s at r
  follows_counted {k} {r} h e p =
      let q = subst (λ n. Follows (times c n) s (at + 2) r) e p in
      record { onward = λ w. counted_onward (omega arith) r (q.onward (omega arith)) }

  pub follows_early : length s - at < 2 → Follows (counted c) s at (Err EndsEarly)
  unfolding counted_read
  follows_early h = record { onward = λ w. stays _ (raw_short s at 2 h) }

-- ---- item after item

-- as the items that are left, from the place p on, are read, so are all n from the place `at` on, of which i were read
abbrev pub Rest : {A : Type 0} → Form A → List ℕ → ℕ → ℕ → ℕ → ℕ → Type 0
Rest c s at n p i = (r : Reached) → Follows (times c (n - i)) s p r → Follows (times c n) s at r

pub all_left : {A : Type 0} (c : Form A) {s : List ℕ} {at n : ℕ} → Rest c s at n at 0
all_left c {s} {at} {n} r h = let e : n - 0 ≡ n = omega arith in subst (λ k. Follows (times c k) s at r) e h

module _ {A : Type 0} (c : Form A) {s : List ℕ} {at n p i : ℕ} (rest : Rest c s at n p i) where
  one_more : i < n → suc (n - (i + 1)) ≡ n - i
  one_more h = omega arith

  pub item_on : {x : Reached} {e : ℕ} → i < n → x ≡ Ok e → Follows c s p x → Rest c s at n e (i + 1)
  item_on h g q r j =
      rest r (subst (λ k. Follows (times c k) s p r) (one_more h) (follows_suc c (n - (i + 1)) (told_so g q) j))

  pub item_stopped : {x r : Reached} {f : Fault} → i < n → x ≡ Err f → IsErrAnd r (λ e. e ≡ f) → Follows c s p x
      → Follows (times c n) s at r
  item_stopped {x} {r} {f} h g k q =
      let j = stopped_suc c (n - (i + 1)) (told_so g q) in
      told_so (same_fault r k) (rest (Err f) (subst (λ k. Follows (times c k) s p (Err f)) (one_more h) j))

  -- no item is left
  pub items_done : n ≤ i → Follows (times c n) s at (Ok p)
  items_done h =
      let e : 0 ≡ n - i = omega arith in rest (Ok p) (subst (λ k. Follows (times c k) s p (Ok p)) e (follows_zero c))

-- ---- the parts of a sheet

-- two forms that read alike
module _ {A : Type 0} (c h : Form A) (by : (s : List ℕ) → h.read s ≡ c.read s) where
  reads_alike : (s : List ℕ) (a : ℕ) (r : Reached) → Reads c s a r → Reads h s a r
  reads_alike s a (Ok e) p = record {
    value_read = p.value_read;
    reads = by (drop a s) ∙ p.reads;
    from = p.from;
    within = p.within;
  }
  reads_alike s a (Err f) p = by (drop a s) ∙ p

  follows_alike : {s : List ℕ} {a : ℕ} (r : Reached) → Follows c s a r → Follows h s a r
  follows_alike {s} {a} r p = record { onward = λ w. reads_alike s a r (p.onward w) }

module _ {s : List ℕ} {a : ℕ} (r : Reached) where
  -- two fields, the greatest values of which are 2 ^ v - 1 and 2 ^ w - 1
  two_kept : (v w : ℕ) → Follows (each below (2 ^ v ∷ 2 ^ w ∷ [])) s a r → Follows (sheet_fields (kept v ∷ kept w ∷ [])) s a r
  unfolding each_read
  two_kept v w p = follows_alike (each below (2 ^ v ∷ 2 ^ w ∷ [])) (sheet_fields (kept v ∷ kept w ∷ [])) (λ s. refl) r p

  -- a reserved field before them
  three_fields : (u v w : ℕ) → Follows (each below (2 ^ v ∷ 2 ^ w ∷ [])) s a r
      → Follows (sheet_fields (reserved u ∷ kept v ∷ kept w ∷ [])) s a r
  three_fields u v w p =
      cons_on sheet_field (reserved u) (kept v ∷ kept w ∷ []) refl (follows_mute (2 ^ u - 1)) (two_kept v w p)

bare_none : {s : List ℕ} {a : ℕ} → Follows (sheet_fields bare) s a (Ok a)
bare_none {a = a} = follows_one sheet_field (reserved 4) (Ok a) (follows_mute 15)

-- the flags of an SDT's entry
pub flags_on : {s : List ℕ} {a : ℕ} (r : Reached) → Follows (each below (2 ∷ 2 ∷ [])) s a r → Follows (each sheet_item (flags ∷ [])) s a r
flags_on r p = follows_one sheet_item flags r (three_fields r 6 1 1 p)

module _ {s : List ℕ} {a : ℕ} (row : ℕ) {b : Bool} (top : b ≡ has_top (shape_of row)) where
  pub side_status : (r : Reached) → b ≡ false → Follows (each below (8 ∷ 2 ∷ [])) s a r → Follows (sheet_fields (side_of row)) s a r
  unfolding side_of
  side_status r e p =
      subst (λ b. Follows (sheet_fields (if b then bare else status)) s a r) (sym e ∙ top) (two_kept r 3 1 p)

  pub side_bare : b ≡ true → Follows (sheet_fields (side_of row)) s a (Ok a)
  unfolding side_of
  side_bare e = subst (λ b. Follows (sheet_fields (if b then bare else status)) s a (Ok a)) (sym e ∙ top) bare_none

  pub top_there : {r : Reached} → b ≡ true → Follows (counted descriptor) s a r → Follows (sheet_top row) s a r
  top_there {r} e p =
      subst (λ b. Follows (choose b then sheet_loop bare else mute ([], [])) s a r) (sym e ∙ top)
      (then_on (sheet_fields bare) (counted descriptor) refl bare_none p)

  pub top_none : b ≡ false → Follows (sheet_top row) s a (Ok a)
  top_none e =
      subst (λ b. Follows (choose b then sheet_loop bare else mute ([], [])) s a (Ok a)) (sym e ∙ top)
      (follows_mute ([], []))

-- the bits before section_length stand in no sheet
pub frame_none : {s : List ℕ} {a : ℕ} → Follows (sheet_fields frame) s a (Ok a)
frame_none {a = a} =
    cons_on sheet_field (reserved 1) (reserved 2 ∷ []) refl (follows_mute 1)
    (follows_one sheet_field (reserved 2) (Ok a) (follows_mute 3))

-- ---- the fields that four tables have in common

module _ {s : List ℕ} {a : ℕ} where
  -- the version's fields and what follows, behind the id
  id_on : {b : ℕ} (more : List Item) {x r : Reached} → x ≡ Ok b → Follows (raw 2) s a x
      → Follows (each sheet_item (version ∷ numbers ∷ more)) s b r → Follows (each sheet_item (common more)) s a r
  id_on more e p h = cons_on sheet_item (plain 2) (version ∷ numbers ∷ more) e p h

  pub common_on : {b c : ℕ} {x y : Reached} (r : Reached) → x ≡ Ok b → Follows (raw 2) s a x
      → y ≡ Ok c → Follows (each below (32 ∷ 2 ∷ [])) s b y → Follows (sheet_item numbers) s c r → Common s a r
  common_on {y = y} (Ok d) e p f q h =
      λ more r g.
      id_on more e p
      (cons_on sheet_item version (numbers ∷ more) f (three_fields y 2 5 1 q) (cons_on sheet_item numbers more refl h g))
  common_on {y = y} (Err d) e p f q h =
      λ more.
      id_on more e p
      (cons_on sheet_item version (numbers ∷ more) f (three_fields y 2 5 1 q) (cons_stopped sheet_item numbers more refl refl h))

  common_handed : (r : Reached) {f : Fault} → IsErrAnd r (λ e. e ≡ f) → Common s a (Err f) → Common s a r
  common_handed r h p = subst (Common s a) (same_fault r h) p

  pub id_stopped : (r : Reached) {x : Reached} {f : Fault} → x ≡ Err f → IsErrAnd r (λ e. e ≡ f) → Follows (raw 2) s a x
      → Common s a r
  id_stopped r e h p = common_handed r h (λ more. cons_stopped sheet_item (plain 2) (version ∷ numbers ∷ more) e refl p)

  pub version_stopped : {b : ℕ} (r : Reached) {x y : Reached} {f : Fault} → x ≡ Ok b → Follows (raw 2) s a x
      → y ≡ Err f → IsErrAnd r (λ e. e ≡ f) → Follows (each below (32 ∷ 2 ∷ [])) s b y → Common s a r
  version_stopped r {y = y} e p f h q =
      common_handed r h
      (λ more. id_on more e p (cons_stopped sheet_item version (numbers ∷ more) f refl (three_fields y 2 5 1 q)))

  -- and what a head has behind them
  pub head_alone : (r : Reached) → Common s a r → Follows (each sheet_item (common [])) s a r
  head_alone (Ok b) p = p [] (Ok b) (follows_nil sheet_item)
  head_alone (Err f) p = p []

  pub head_on : {b : ℕ} (more : List Item) {x r : Reached} → x ≡ Ok b → Common s a x → Follows (each sheet_item more) s b r
      → Follows (each sheet_item (common more)) s a r
  head_on more {r = r} e p q = subst (Common s a) e p more r q

  pub head_stopped : (more : List Item) {x r : Reached} {f : Fault} → x ≡ Err f → IsErrAnd r (λ e. e ≡ f) → Common s a x
      → Follows (each sheet_item (common more)) s a r
  head_stopped more {r = r} e h p = told_so (same_fault r h) (subst (Common s a) e p more)

-- ---- by the table

-- as items that are the same
pub items_are : {xs ys : List Item} → ys ≡ xs → {s : List ℕ} {a : ℕ} {r : Reached} → Follows (each sheet_item xs) s a r
    → Follows (each sheet_item ys) s a r
items_are e {s} {a} {r} p = subst (λ l. Follows (each sheet_item l) s a r) (sym e) p

module _ (t : Table) where
  pub stream_head : (t ≡ Nit) ⊎ (t ≡ Bat) → head_of (place t) ≡ common []
  unfolding head_of
  stream_head (inl e) = ap (λ t. head_of (place t)) e
  stream_head (inr e) = ap (λ t. head_of (place t)) e

  pub service_head : t ≡ Sdt → head_of (place t) ≡ common (plain 2 ∷ filler ∷ [])
  unfolding head_of
  service_head e = ap (λ t. head_of (place t)) e

  pub event_head : t ≡ Eit → head_of (place t) ≡ common (plain 6 ∷ [])
  unfolding head_of
  event_head e = ap (λ t. head_of (place t)) e

  pub time_head : (t ≡ Tdt) ⊎ (t ≡ Tot) → head_of (place t) ≡ plain 5 ∷ []
  unfolding head_of
  time_head (inl e) = ap (λ t. head_of (place t)) e
  time_head (inr e) = ap (λ t. head_of (place t)) e

  pub stream_items : (t ≡ Nit) ⊎ (t ≡ Bat) → entry_of (place t) ≡ plain 4 ∷ []
  unfolding entry_of
  stream_items (inl e) = ap (λ t. entry_of (place t)) e
  stream_items (inr e) = ap (λ t. entry_of (place t)) e

  pub service_items : t ≡ Sdt → entry_of (place t) ≡ plain 2 ∷ flags ∷ []
  unfolding entry_of
  service_items e = ap (λ t. entry_of (place t)) e

  pub event_items : t ≡ Eit → entry_of (place t) ≡ plain 10 ∷ []
  unfolding entry_of
  event_items e = ap (λ t. entry_of (place t)) e

  pub time_items : (t ≡ Tdt) ⊎ (t ≡ Tot) → entry_of (place t) ≡ []
  unfolding entry_of
  time_items (inl e) = ap (λ t. entry_of (place t)) e
  time_items (inr e) = ap (λ t. entry_of (place t)) e

-- the reserved byte of an SDT's head is in no sheet
pub filler_none : {s : List ℕ} {a : ℕ} (r : Reached) → Follows (raw 2) s a r
    → Follows (each sheet_item (plain 2 ∷ filler ∷ [])) s a r
filler_none (Ok b) p =
    cons_on sheet_item (plain 2) (filler ∷ []) refl p
    (follows_one sheet_item filler (Ok b) (follows_one sheet_field (reserved 8) (Ok b) (follows_mute 255)))
filler_none (Err f) p = cons_stopped sheet_item (plain 2) (filler ∷ []) refl refl p

-- ---- entries

module _ (row : ℕ) {s : List ℕ} {a : ℕ} (r : Reached) where
  entries_are : (c : Form Entries) → ◌≡◌ {A = Form Entries} (sheet_entries row) c → Follows c s a r
      → Follows (sheet_entries row) s a r
  entries_are c e p = subst (λ d. Follows d s a r) (sym e) p

pub entries_none : (row : ℕ) {s : List ℕ} {a : ℕ} → 4 ≤ row → Follows (sheet_entries row) s a (Ok a)
unfolding cell shape_of
entries_none row {a = a} h = entries_are row (Ok a) (mute ([], [])) (go row h) (follows_mute ([], []))
  where
    go : (row : ℕ) → 4 ≤ row → ◌≡◌ {A = Form Entries} (sheet_entries row) (mute ([], []))
    go zero h = absurd (omega arith)
    go (suc zero) h = absurd (omega arith)
    go (suc (suc zero)) h = absurd (omega arith)
    go (suc (suc (suc zero))) h = absurd (omega arith)
    go (suc (suc (suc (suc zero)))) h = refl
    go (suc (suc (suc (suc (suc zero))))) h = refl
    go (suc (suc (suc (suc (suc (suc n)))))) h = refl

pub entries_some : (row : ℕ) {s : List ℕ} {a : ℕ} (r : Reached) → row < 4 → Follows (counted (sheet_entry row)) s a r
    → Follows (sheet_entries row) s a r
unfolding cell shape_of
entries_some zero r h p =
    entries_are 0 r (sheet_fields bare then counted (sheet_entry 0)) refl
    (then_on (sheet_fields bare) (counted (sheet_entry 0)) refl bare_none p)
entries_some (suc zero) r h p =
    entries_are 1 r (sheet_fields [] then counted (sheet_entry 1)) refl
    (then_on (sheet_fields []) (counted (sheet_entry 1)) refl (follows_nil sheet_field) p)
entries_some (suc (suc zero)) r h p =
    entries_are 2 r (sheet_fields bare then counted (sheet_entry 2)) refl
    (then_on (sheet_fields bare) (counted (sheet_entry 2)) refl bare_none p)
entries_some (suc (suc (suc zero))) r h p =
    entries_are 3 r (sheet_fields [] then counted (sheet_entry 3)) refl
    (then_on (sheet_fields []) (counted (sheet_entry 3)) refl (follows_nil sheet_field) p)
entries_some (suc (suc (suc (suc n)))) r h p = absurd (omega arith)
