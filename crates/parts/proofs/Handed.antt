-- What is handed out is what the grammar has: entries, loops and descriptors, all of them and in order.
use Prim.Native.Nat.{ℕ, ◌+◌, ◌-◌, ◌<◌, ◌≤◌}
use mathlib.Core.Path.{◌≡◌, refl, ap, ◌∙◌, sym, subst}
use mathlib.Core.List.{List, [], ◌∷◌, ◌++◌}
use native.Mathlib.Omega.{arith}
use lib.ListN.{length, get_or, drop, length-append, get_or-append}
use lib.Seq.{drop_at, get_or-drop}
use Rattle.std.specs.Prelude.{Some, None}
use Rattle.wire.specs.Bytes.{len12, len12_at}
use Rattle.wire.proofs.PartLaws.{part_first, part_second, len12_drop, len12_front}
use Rattle.tables.specs.Tables.{row_at, FixedTwo}
use Rattle.tables.proofs.RowLaws.{fixed_two, row_is}
use Rattle.verdict.specs.Verdict.{accepted}
use Rattle.loops.specs.Descriptors.{Placed}
use Rattle.loops.specs.Grammar as loop-grammar
use Rattle.loops.specs.Grammar.{Descriptors}
use Rattle.section.specs.Reading.{body, row_for, judged}
use Rattle.section.specs.Grammar as grammar
use Rattle.section.specs.Grammar.{Head, Entries, Inside, Section, nothing, loop, loops}
use Rattle.section.proofs.Exactly.{body_cut, section_judged}
use Rattle.parts.specs.Parts.{part, no_part, behind, Is}
use Rattle.parts.specs.Entries.{one_entry, next_entry}
use Rattle.parts.specs.Descriptors.{one_descriptor, next_descriptor}
use Rattle.parts.specs.Opening.{top_of, entries_of, Answer, Opens}
use Rattle.parts.specs.Handed.{HandsDescriptors, HandsEntries, top_ones, entry_ones, Through}
use Rattle.parts.specs.Handed as handed
use Rattle.tables.specs.declared.Row.{Row}
use Rattle.parts.specs.declared.Part.{Part}
use Rattle.parts.proofs.Fronts.{is_in, descriptor_in, descriptor_whole, descriptor_short, entry_in, entry_whole, entry_short, entry_none}
use Rattle.parts.proofs.Openings.{top_there, top_none, entries_none, entries_first, entries_second}

-- what an opened section hands out, by its row
record Parts (s : List ℕ) (row : Row) (loops : List (List Placed)) : Type 0 where
  pub top_bytes : List ℕ
  pub top : HandsDescriptors s (top_of row s) top_bytes (top_ones loops)
  pub entry_bytes : List ℕ
  pub entries : HandsEntries s (entries_of row s) entry_bytes (entry_ones loops)

module _ {s : List ℕ} where
  -- a part of two: its front, and what is behind that
  pub is_front : {r : Part} (x y : List ℕ) → Is s r (x ++ y) → Is s (part r.start (length x)) x
  is_front x y h = record { stands = part_first x y h.stands; sized = refl }

  pub is_behind : {r : Part} (x y : List ℕ) → Is s r (x ++ y) → Is s (behind (length x) r) y
  is_behind x y h =
      record { stands = part_second x y h.stands; sized = omega (arith, h.sized, length-append x y) }

  -- a part ends in s
  pub is_inside : {r : Part} (l : List ℕ) → Is s r l → r.start + r.size ≤ length s
  is_inside l h =
      let w = h.stands in
      omega (arith, h.sized, w.place, ap length w.whole ∙ length-append w.front (l ++ w.back), length-append l w.back)

  -- the bytes at its front
  dropped : {r : Part} (l : List ℕ) (h : Is s r l) → drop r.start s ≡ l ++ h.stands.back
  dropped {r} l h =
      let w = h.stands in
      ap (drop r.start) w.whole ∙ drop_at w.front (l ++ w.back) r.start w.place

  pub byte_of : {r : Part} (l : List ℕ) → Is s r l → (i : ℕ) → i < length l → get_or s (r.start + i) 0 ≡ get_or l i 0
  byte_of {r} l h i g = sym (get_or-drop r.start s i 0) ∙ ap (λ x. get_or x i 0) (dropped l h) ∙ get_or-append l h.stands.back 0 i g

  pub length_of : {r : Part} (l : List ℕ) → Is s r l → (i : ℕ) → i + 1 < length l → len12_at s (r.start + i) ≡ len12_at l i
  length_of {r} l h i g = sym (len12_drop s r.start i) ∙ ap (λ x. len12_at x i) (dropped l h) ∙ len12_front l h.stands.back i g

  resized : {a n m : ℕ} {l : List ℕ} → n ≡ m → Is s (part a n) l → Is s (part a m) l
  resized {a} {l = l} e h = subst (λ k. Is s (part a k) l) e h

  -- ---- descriptors

  -- the first of them
  first_descriptor : {r : Part} (tag : ℕ) (body l : List ℕ) → Is s r (tag ∷ length body ∷ (body ++ l))
      → next_descriptor s r ≡ Some (one_descriptor tag (length body) r)
  first_descriptor {r} tag body l h =
      let all : List ℕ = tag ∷ length body ∷ (body ++ l) in
      let t : get_or s r.start 0 ≡ tag = ap (λ k. get_or s k 0) (omega arith) ∙ byte_of all h 0 (omega arith) in
      let n : get_or s (r.start + 1) 0 ≡ length body = byte_of all h 1 (omega arith) in
      descriptor_in s r (sym (is_in s r (is_inside all h))) refl
      ∙ descriptor_whole s r (length body) (sym n) (omega (arith, h.sized, length-append body l))
      ∙ ap (λ k. Some (one_descriptor k (length body) r)) t

  no_more : {r : Part} → Is s r [] → next_descriptor s r ≡ None
  no_more {r} h = descriptor_in s r (sym (is_in s r (is_inside [] h))) refl ∙ descriptor_short s r (omega (arith, h.sized))

  -- a loop of the grammar
  pub loop-handed : {p : ℕ} {l : List ℕ} {ds : List Placed} (r : Part) → Descriptors p l ds → r.start ≡ p → Is s r l
      → HandsDescriptors s r l ds
  loop-handed r loop-grammar.Descriptors.none e h = handed.HandsDescriptors.none (no_more h) (sym h.sized)
  loop-handed {p} r (loop-grammar.Descriptors.one tag body {l = l} d) e h =
      let two : Is s (behind 2 r) (body ++ l) = is_behind (tag ∷ length body ∷ []) (body ++ l) h in
      let n : length (tag ∷ length body ∷ body) ≡ 2 + length body = omega arith in
      let whole : Is s (part r.start (2 + length body)) (tag ∷ length body ∷ body) =
      resized n (is_front (tag ∷ length body ∷ body) l h) in
      let rest : Is s (behind (2 + length body) r) l =
      subst (λ k. Is s (behind k r) l) n (is_behind (tag ∷ length body ∷ body) l h) in
      handed.HandsDescriptors.one (one_descriptor tag (length body) r) _ (first_descriptor tag body l h) refl e
      (is_front body l two) whole
      (loop-handed (behind (2 + length body) r) d (omega arith) rest)

  -- ---- entries

  module _ (fixed : ℕ) (two : 2 ≤ fixed) (row : fixed ≡ (row_for s).fixed) where
    first_entry : {r : Part} (head body l : List ℕ) → Head fixed head body → Is s r (head ++ (body ++ l))
        → next_entry s r ≡ Some (one_entry fixed (length body) r)
    first_entry {r} head body l g h =
        let all : List ℕ = head ++ (body ++ l) in
        let front = is_front head (body ++ l) h in
        let n : len12_at s (r.start + (fixed - 2)) ≡ length body =
        length_of head front (fixed - 2) (omega (arith, g.size)) ∙ g.says in
        entry_in s r (sym (is_in s r (is_inside all h))) refl
        ∙ rw (← row)
        (entry_whole s r fixed (length body) (sym n) (λ z. omega arith)
        (omega (arith, h.sized, g.size, length-append head (body ++ l), length-append body l)))

    no_more_entries : {r : Part} → Is s r [] → next_entry s r ≡ None
    no_more_entries {r} h =
        entry_in s r (sym (is_in s r (is_inside [] h))) refl
        ∙ rw (← row) (entry_short s r fixed (λ z. omega arith) (omega (arith, h.sized)))

    -- entries of the grammar
    pub entries_handed : {p : ℕ} {l : List ℕ} {ls : List (List Placed)} (r : Part) → Entries fixed p l ls → r.start ≡ p → Is s r l
        → HandsEntries s r l ls
    entries_handed r grammar.Entries.none e h = handed.HandsEntries.none (no_more_entries h) (sym h.sized)
    entries_handed r (grammar.Entries.one head body {l = l} g d x) e h =
        let front : Is s (part r.start fixed) head = resized g.size (is_front head (body ++ l) h) in
        let behind-head : Is s (behind fixed r) (body ++ l) =
        subst (λ k. Is s (behind k r) (body ++ l)) g.size (is_behind head (body ++ l) h) in
        let own : Is s (part (r.start + fixed) (length body)) body = is_front body l behind-head in
        let k : behind (length body) (behind fixed r) ≡ behind (fixed + length body) r = moved in
        let rest : Is s (behind (fixed + length body) r) l = subst (λ q. Is s q l) k (is_behind body l behind-head) in
        handed.HandsEntries.one (one_entry fixed (length body) r) head body (first_entry head body l g h)
        (subst (λ n. Head n head body) row g) front own
        (loop-handed (part (r.start + fixed) (length body)) d (omega arith) own)
        (entries_handed (behind (fixed + length body) r) x (omega arith) rest)
      where
        moved : behind (length body) (behind fixed r) ≡ behind (fixed + length body) r
        moved =
            let a : r.start + fixed + length body ≡ r.start + (fixed + length body) = omega arith in
            let b : r.size - fixed - length body ≡ r.size - (fixed + length body) = omega arith in
            rw (a, b)

  -- ---- a section

  -- nothing is handed out of no part
  nowhere : Is s no_part []
  nowhere = record { stands = record { front = []; back = s; whole = refl; place = refl }; sized = refl }

  no_descriptors : HandsDescriptors s no_part [] []
  no_descriptors = handed.HandsDescriptors.none (no_more nowhere) refl

  no_entries : (row_for s).fixed ≡ 0 → HandsEntries s no_part [] []
  no_entries f =
      handed.HandsEntries.none
      (entry_in s no_part (sym (is_in s no_part (is_inside [] nowhere))) refl ∙ entry_none s no_part (row_for s).fixed f) refl

  -- what is left of a part is as long as its bytes
  fitted : {a n : ℕ} {l : List ℕ} → Is s (part a n) l → Is s (part a (length l)) l
  fitted h = resized (sym h.sized) h

  -- what stands behind a length of two bytes
  past_length : {p n : ℕ} (high low : ℕ) (l : List ℕ) → Is s (part p n) (high ∷ low ∷ l) → Is s (part (p + 2) (length l)) l
  past_length high low l h = fitted (is_behind (high ∷ low ∷ []) l h)

  -- and the length itself
  says : {p n : ℕ} (high low : ℕ) (l : List ℕ) → Is s (part p n) (high ∷ low ∷ l) → len12_at s p ≡ len12 high low
  says {p} high low l h = ap (len12_at s) (omega arith) ∙ length_of (high ∷ low ∷ l) h 0 (omega arith)

  -- a walk from the same part
  from_same : {p q : Part} {l : List ℕ} {ds : List Placed} → p ≡ q → HandsDescriptors s q l ds → HandsDescriptors s p l ds
  from_same e h = rw e h

  entries_from_same : {p q : Part} {l : List ℕ} {ls : List (List Placed)} → p ≡ q → HandsEntries s q l ls
      → HandsEntries s p l ls
  entries_from_same e h = rw e h

  inside_handed : (row : Row) → row_for s ≡ row → FixedTwo row.fixed → {m : List ℕ} {ls : List (List Placed)}
      → Inside row row.before m ls
      → length (body row s) ≡ row.before + length m → Is s (part row.before (length m)) m → Parts s row ls
  inside_handed row same two (nothing t f) ends all =
      record {
        top_bytes = [];
        top = from_same (top_none row s t) no_descriptors;
        entry_bytes = [];
        entries = entries_from_same (entries_none row s f) (no_entries (ap (λ (w : Row). w.fixed) same ∙ f));
      }
  inside_handed row same two (loop t f high low {l = l} e d) ends all =
      let n : length l ≡ len12_at s row.before = sym (says high low l all ∙ e) in
      record {
        top_bytes = l;
        top =
            from_same (top_there row s (length l) n t)
            (loop-handed (part (row.before + 2) (length l)) d refl (past_length high low l all));
        entry_bytes = [];
        entries = entries_from_same (entries_none row s f) (no_entries (ap (λ (w : Row). w.fixed) same ∙ f));
      }
  inside_handed row same two (loops t f high low top e d high' low' {l = l} e' r) ends all =
      let p : ℕ = row.before in
      let n : length top ≡ len12_at s p = sym (says high low (top ++ (high' ∷ low' ∷ l)) all ∙ e) in
      let both : List ℕ = top ++ (high' ∷ low' ∷ l) in
      let inner : Is s (part (p + 2) (length both)) both = past_length high low both all in
      let second : Is s (part (p + 2 + length top) (length (high' ∷ low' ∷ l))) (high' ∷ low' ∷ l) =
      fitted (is_behind top (high' ∷ low' ∷ l) inner) in
      let own : Is s (part (p + 2 + length top + 2) (length l)) l = past_length high' low' l second in
      let left : length l ≡ length (body row s) - (p + 2 + length top + 2) = omega (arith, ends, length-append top (high' ∷ low' ∷ l)) in
      record {
        top_bytes = top;
        top =
            from_same (top_there row s (length top) n t)
            (loop-handed (part (p + 2) (length top)) d refl (is_front top (high' ∷ low' ∷ l) inner));
        entry_bytes = l;
        entries =
            entries_from_same (entries_second row s (body row s) refl (length l) f (length top) n left t)
            (entries_handed row.fixed (two f) (ap (λ (w : Row). w.fixed) (sym same))
            (part (p + 2 + length top + 2) (length l)) r (omega arith) own);
      }
  inside_handed row same two {m} (grammar.Inside.entries t f r) ends all =
      let left : length m ≡ length (body row s) - row.before = omega (arith, ends) in
      record {
        top_bytes = [];
        top = from_same (top_none row s t) no_descriptors;
        entry_bytes = m;
        entries =
            entries_from_same (entries_first row s (body row s) refl (length m) f left t)
            (entries_handed row.fixed (two f) (ap (λ (w : Row). w.fixed) (sym same)) (part row.before (length m)) r refl all);
      }

-- ALL OF THEM AND IN ORDER: a section's top loop, its entries and their loops are handed out as the grammar has them
pub section_handed : (s : List ℕ) (ls : List (List Placed)) (o : Answer) → Section s ls → Opens s o → Through s ls o
section_handed s ls o x w =
    record {
      says = w.verdict ∙ yes;
      top_bytes = p.top_bytes;
      top = from_same (w.top ∙ rw yes) p.top;
      entry_bytes = p.entry_bytes;
      entries = entries_from_same (w.entries ∙ rw yes) p.entries;
    }
  where
    i : ℕ
    i = x.row

    m : List ℕ
    m = x.middle

    same : row_for s ≡ row_at i
    same = ap row_at (row_is (get_or s 0 0) i x.cut.known x.cut.table)

    yes : judged s ≡ accepted
    yes = section_judged s ls x

    ends : length (body (row_at i) s) ≡ (row_at i).before + length m
    ends = ap length (body_cut i s m x.cut) ∙ length-append x.cut.head m ∙ ap (λ n. n + length m) x.cut.before

    all : Is s (part (row_at i).before (length m)) m
    all = record {
      stands = record { front = x.cut.head; back = x.cut.tail; whole = x.cut.whole; place = x.cut.before };
      sized = refl;
    }

    p : Parts s (row_for s) ls
    p = rw same (inside_handed (row_at i) same (fixed_two i) x.inside ends all)
