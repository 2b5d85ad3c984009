-- The bytes of an item are those of the numbers that its fields make.
use mathlib.Core.Path.{◌≡◌, refl, sym, ap, ◌∙◌, subst}
use mathlib.Core.Bool.{Bool, true, false, not}
use mathlib.Core.List.{List, [], ◌∷◌, ◌++◌}
use Prim.Native.Nat.{ℕ, zero, suc, ◌+◌, ◌*◌, ◌^◌, ◌<◌}
use native.Mathlib.Omega.{arith}
use borrow.Author.Tests.{le-ltb}
use lib.Dec.{ltb, eqb, eqb-suc-zero}
use lib.IntN.{ℤ, pos, negsuc, nat_abs}
use lib.ListN.{length, get_or, drop}
use lib.Seq.{get_or-drop}
use Rattle.std.specs.Prelude.{if◌then◌else◌}
use Rattle.std.specs.Prelude.{Option, Some, None}
use Rattle.wire.specs.Reading.{Reading, value, refused, ◌>>=◌}
use Rattle.wire.proofs.ReadingLaws.{value_is, refused_is, never, through}
use Rattle.forms.specs.Fields.{Field, kept, bits, room, pack}
use Rattle.clock.specs.Offset.{offset_shown}
use Rattle.clock.specs.Time.{Moment, time_shown}
use Rattle.layout.specs.Widths.{size, bit}
use Rattle.lists.specs.Content as content
use Rattle.lists.specs.LocalTimeOffset as offset
use Rattle.lists.specs.declared.local_time_offset.Item.{Item}
use Rattle.lists.proofs.Layouts.{content_fills, services_fill, ratings_fill, offsets_fill}
use Rattle.writing.specs.Number.{ofNumber}
use Rattle.writing.specs.Fill.{ones, filled, made, below}
use Rattle.writing.specs.Rows.{natural, sized}
use Rattle.writing.proofs.NumberBytes.{of_join}
use Rattle.writing.proofs.Made.{made_length}
use Rattle.write_lists.specs.ServiceList as services
use Rattle.write_lists.specs.Content as contents
use Rattle.write_lists.specs.ParentalRating as ratings
use Rattle.write_lists.specs.LocalTimeOffset as offsets
use Rattle.write_lists.specs.LocalTimeOffset.{at, opposite, are_offsets, behind, no_moment, some_moment, moment}
use Rattle.write_lists.specs.Inner.Numbers.{joint, digits, Within}
use Rattle.write_lists.specs.Inner.Offsets.{day_bits, some_time_bits, no_time_bits, moment_bits}
use Rattle.write_lists.specs.Inner.Offsets.{hours_in, signs, front_bits, back_bits}
use Rattle.write_lists.specs.Inner.Kinds.{item_size, piece_of, service_bits, content_bits, rating_bits, item_of}
use Rattle.write_lists.specs.declared.kinds.Kind.{Kind}
use Rattle.write_lists.specs.declared.kinds.Kind.TheVariants.{ServiceList, Content, ParentalRating, LocalTimeOffset}

bind_bind : {A B C : Type 0} (r : Reading A) (f : A → Reading B) (g : B → Reading C)
    → ((r >>= f) >>= g) ≡ (r >>= λ a. f a >>= g)
bind_bind (value a) f g = refl
bind_bind (refused k) f g = refl

-- ---- the items whose numbers are their fields

-- a field in front of one of eight bits
abbrev two_fields : ℕ → List Field
two_fields w = kept w ∷ kept 8 ∷ []

made_two : (w a b : ℕ) → made ones (two_fields w) (a ∷ b ∷ []) ≡ ofNumber (size (two_fields w)) (a * 256 + b)
unfolding made filled pack room
made_two w a b = ap (ofNumber (size (two_fields w))) (omega arith)

made_three : (a b c : ℕ) → made ones content.layout (a ∷ b ∷ c ∷ []) ≡ ofNumber 2 ((a * 16 + b) * 256 + c)
unfolding made filled pack room
made_three a b c = ap (ofNumber 2) (omega arith)

-- an item of two fields that are read
module _ {A : Type 0} (made_of : ℕ → ℕ → A) (bytes : A → List ℕ) (n : ℕ)
    (is : (a b : ℕ) → bytes (made_of a b) ≡ ofNumber n (a * 256 + b)) where
  two : (r s : Reading ℕ)
      → ((r >>= λ a. s >>= λ b. value (made_of a b)) >>= λ i. value (bytes i))
      ≡ (joint r 256 s >>= λ x. value (ofNumber n x))
  unfolding joint
  two (value a) (value b) = ap value (is a b)
  two (value a) (refused k) = refl
  two (refused k) s = refl

pub service_piece : (zs : List ℤ) → services.piece zs ≡ item_of ServiceList (value 0) (service_bits zs)
unfolding services.piece services.item item_of ofNumber
service_piece zs = two _ _ 3 (made_two 16) (natural 0x1_0000 (get_or zs 0 (pos 0))) (natural 256 (get_or zs 1 (pos 0)))

pub rating_piece : (zs : List ℤ) → ratings.piece zs ≡ item_of ParentalRating (value 0) (rating_bits zs)
unfolding ratings.piece ratings.item item_of ofNumber
rating_piece zs = two _ _ 4 (made_two 24) (natural 0x100_0000 (get_or zs 0 (pos 0))) (natural 256 (get_or zs 1 (pos 0)))

three : (r s t : Reading ℕ)
    → ((r >>= λ a. s >>= λ b. t >>= λ c. value (record {
      content_nibble_level_1 = a;
      content_nibble_level_2 = b;
      user_byte = c;
    })) >>= λ i. value (made ones content.layout (content.shown i)))
    ≡ (joint (joint r 16 s) 256 t >>= λ x. value (ofNumber 2 x))
unfolding joint
three (value a) (value b) (value c) = ap value (made_three a b c)
three (value a) (value b) (refused k) = refl
three (value a) (refused k) t = refl
three (refused k) s t = refl

pub content_piece : (zs : List ℤ) → contents.piece zs ≡ item_of Content (value 0) (content_bits zs)
unfolding contents.piece contents.item item_of ofNumber
content_piece zs =
    three (natural 16 (get_or zs 0 (pos 0))) (natural 16 (get_or zs 1 (pos 0))) (natural 256 (get_or zs 2 (pos 0)))

-- ---- the time of change

-- a day and a clock that are read
some_of : (d h m s : Reading ℕ)
    → moment_bits (d >>= λ day. h >>= λ hour. m >>= λ minute. s >>= λ second. value (Some (record {
      mjd = day;
      clock = record { hour = hour; minute = minute; second = second };
    })))
    ≡ joint d (2 ^ 24) (joint (joint (digits h) 256 (digits m)) 256 (digits s))
unfolding moment_bits joint digits
some_of (value d) (value h) (value m) (value s) = ap value (omega arith)
some_of (value d) (value h) (value m) (refused k) = refl
some_of (value d) (value h) (refused k) s = refl
some_of (value d) (refused k) m s = refl
some_of (refused k) h m s = refl

-- the numbers from 3 on
from_third : (zs : List ℤ) (i : ℕ) → at (drop 3 zs) i ≡ at zs (3 + i)
from_third zs i = get_or-drop 3 zs i (pos 0)

some_time : (zs : List ℤ) → moment_bits (some_moment (drop 3 zs)) ≡ some_time_bits zs
unfolding some_moment day_bits
some_time zs =
    let from_first : ℕ → Reading ℕ = λ mjd. if ltb mjd 15079 then refused 112 else value mjd in
    rw (from_third zs 0, from_third zs 1, from_third zs 2, from_third zs 3)
    (ap moment_bits (sym (bind_bind (natural (2 ^ 16) (at zs 3)) from_first _))
    ∙ some_of (day_bits zs) (natural 24 (at zs 4)) (natural 60 (at zs 5)) (natural 60 (at zs 6)))

abbrev zero_if : Bool → Reading ℕ
zero_if b = if b then value 0 else refused 112

-- a number below 1 is 0
zero_or : (z : ℤ) → natural 1 z ≡ zero_if (ltb (nat_abs z) 1)
unfolding natural
zero_or (pos zero) = refl
zero_or (pos (suc n)) = rw (le-ltb (suc n) 1 (omega arith))
zero_or (negsuc n) = rw (le-ltb (suc n) 1 (omega arith))

none_of : (a b c d : Bool)
    → moment_bits (if (if a then if b then if c then if d then true else false else false else false else false)
    then value None else refused 112)
    ≡ joint (joint (joint (zero_if a) 1 (zero_if b)) 1 (joint (zero_if c) 1 (zero_if d))) 1 (value 0xFF_FFFF_FFFF)
unfolding moment_bits joint
none_of true true true true = refl
none_of true true true false = refl
none_of true true false d = refl
none_of true false c d = refl
none_of false b c d = refl

no_time : (zs : List ℤ) → moment_bits (no_moment (drop 3 zs)) ≡ no_time_bits zs
unfolding no_moment below
no_time zs =
    let is_zero : ℕ → Bool = λ i. ltb (nat_abs (at zs i)) 1 in
    rw (from_third zs 0, from_third zs 1, from_third zs 2, from_third zs 3)
    (rw (zero_or (at zs 3), zero_or (at zs 4), zero_or (at zs 5), zero_or (at zs 6))
    (none_of (is_zero 3) (is_zero 4) (is_zero 5) (is_zero 6)))

module _ (zs : List ℤ) where
  one_of : (b : Bool)
      → moment_bits (if b then no_moment (drop 3 zs) else some_moment (drop 3 zs))
      ≡ (if b then no_time_bits zs else some_time_bits zs)
  one_of true = no_time zs
  one_of false = some_time zs

  time_of_lem : (r : Reading ℕ)
      → moment_bits (r >>= λ u. if eqb u 1 then no_moment (drop 3 zs) else some_moment (drop 3 zs))
      ≡ (r >>= λ u. if eqb u 1 then no_time_bits zs else some_time_bits zs)
  unfolding moment_bits
  time_of_lem (value u) = one_of (eqb u 1)
  time_of_lem (refused k) = refl

  pub moment_bits_lem : moment_bits (moment (drop 3 zs))
      ≡ (natural 2 (at zs 7) >>= λ u. if eqb u 1 then no_time_bits zs else some_time_bits zs)
  unfolding moment
  moment_bits_lem = rw (from_third zs 4) (time_of_lem (natural 2 (at zs 7)))

-- ---- the offsets, and the item

signs_are : (l n : ℤ) → signs (sized l) (sized n) ≡ (if opposite l n then refused 112 else value (2 + bit (behind l n)))
unfolding signs behind
signs_are (pos zero) (pos zero) = refl
signs_are (pos zero) (pos (suc n)) = refl
signs_are (pos zero) (negsuc n) = refl
signs_are (pos (suc m)) (pos n) = refl
signs_are (pos (suc m)) (negsuc n) = rw (eqb-suc-zero m)
signs_are (negsuc m) (pos zero) = refl
signs_are (negsuc m) (pos (suc n)) = rw (eqb-suc-zero n)
signs_are (negsuc m) (negsuc n) = refl

made_offset : (country region p local change next : ℕ) → change * 2 ^ 16 + next < 2 ^ 56
    → made ones offset.layout (country ∷ region ∷ p ∷ local ∷ change ∷ next ∷ [])
    ≡ ofNumber 6 (((country * 64 + region) * 4 + (2 + p)) * 2 ^ 16 + local) ++ ofNumber 7 (change * 2 ^ 16 + next)
unfolding made filled pack room
made_offset country region p local change next h =
    let high : ℕ = ((country * 64 + region) * 4 + (2 + p)) * 2 ^ 16 + local in
    ap (ofNumber 13) (omega arith) ∙ of_join 6 7 high (change * 2 ^ 16 + next) h

-- what an answer tells is below its limit, or refused by 112
told_below : {limit x : ℕ} (b : Option ℕ) → Within limit (value x) b → x < limit
told_below {limit} (Some y) w = subst (λ n. n < limit) (value_is w.told) w.small
told_below None w = absurd (never (sym w.told))

told_refusal : {limit k : ℕ} (b : Option ℕ) → Within limit (refused k) b → 112 ≡ k
told_refusal (Some y) w = absurd (never w.told)
told_refusal None w = refused_is w.told

-- an item, where its offsets are such
abbrev item_with : ℕ → ℕ → ℤ → ℤ → Bool → Moment → Reading Item
item_with country region l n are t = if are then value (record {
  country_code = country;
  country_region_id = region;
  local_time_offset = l;
  time_of_change = t;
  next_time_offset = n;
}) else refused 112

abbrev bytes_of : Item → Reading (List ℕ)
bytes_of i = value (made ones offset.layout (offset.shown (behind i.local_time_offset i.next_time_offset) i))

abbrev shown_if : Bool → ℤ → Reading ℕ
shown_if small z = if small then value (offset_shown z) else refused 112

-- Offsets are refused by one test behind the time, and by three around it: all by 112, as the time is.
module _ (country region : ℕ) (l n : ℤ) where
  offsets_of : (m : Reading Moment) (opposed small near : Bool) (b : Option ℕ)
      → Within (2 ^ 56) (joint (moment_bits m) (2 ^ 16) (shown_if near n)) b
      → (m >>= λ t. item_with country region l n (if small then (if near then not opposed else false) else false) t
      >>= bytes_of)
      ≡ item_of LocalTimeOffset
      (joint (joint (value (country * 64 + region)) 4 (if opposed then refused 112 else value (2 + bit (behind l n))))
      (2 ^ 16)
      (shown_if small l))
      (joint (moment_bits m) (2 ^ 16) (shown_if near n))
  unfolding joint moment_bits item_of
  offsets_of (value t) false true true b w =
      ap value
      (made_offset country region (bit (behind l n)) (offset_shown l) (time_shown t) (offset_shown n) (told_below b w))
  offsets_of (value t) false true false b w = refl
  offsets_of (value t) false false near b w = refl
  offsets_of (value t) true true true b w = refl
  offsets_of (value t) true true false b w = refl
  offsets_of (value t) true false near b w = refl
  offsets_of (refused k) false true near b w = refl
  offsets_of (refused k) false false near b w = ap refused (sym (told_refusal b w))
  offsets_of (refused k) true small near b w = ap refused (sym (told_refusal b w))

fields_of : (c r : Reading ℕ) (m : Reading Moment) (l n : ℤ) (b : Option ℕ)
    → Within (2 ^ 56) (joint (moment_bits m) (2 ^ 16) (hours_in (sized n))) b
    → ((c >>= λ country. r >>= λ region. m >>= item_with country region l n (are_offsets l n)) >>= bytes_of)
    ≡ item_of LocalTimeOffset (joint (joint (joint c 64 r) 4 (signs (sized l) (sized n))) (2 ^ 16) (hours_in (sized l)))
    (joint (moment_bits m) (2 ^ 16) (hours_in (sized n)))
unfolding joint digits item_of are_offsets hours_in
fields_of (value c) (value r) m l n b w =
    bind_bind m _ _
    ∙ rw (signs_are l n)
    (offsets_of c r l n m (opposite l n) (ltb (nat_abs l) 1440) (ltb (nat_abs n) 1440) b w)
fields_of (value c) (refused k) m l n b w = refl
fields_of (refused k) r m l n b w = refl

pub offset_piece : (zs : List ℤ) (b : Option ℕ) → Within (2 ^ 56) (back_bits zs) b
    → offsets.piece zs ≡ item_of LocalTimeOffset (front_bits zs) (back_bits zs)
unfolding offsets.piece offsets.item
offset_piece zs b w =
    fields_of (natural (2 ^ 24) (at zs 0)) (natural 64 (at zs 1)) (moment (drop 3 zs)) (at zs 2) (at zs 8) b w

-- ---- how many bytes they are

made_sized : {A : Type 0} (fs : List Field) (n : ℕ) → bits fs ≡ 8 * n
    → (r : Reading A) (values : A → List ℕ) (b : List ℕ)
    → (r >>= λ a. value (made ones fs (values a))) ≡ value b
    → length b ≡ n
made_sized fs n fills r values b e =
    let t = through r (λ a. value (made ones fs (values a))) b e in
    ap length (sym (value_is t.2)) ∙ made_length fs n fills ones (values t.0)

pub piece_size : (k : Kind) (zs : List ℤ) (b : List ℕ) → piece_of k zs ≡ value b → length b ≡ item_size k
unfolding services.piece contents.piece ratings.piece offsets.piece
piece_size ServiceList zs b e = made_sized _ 3 services_fill (services.item zs) _ b e
piece_size Content zs b e = made_sized _ 2 content_fills (contents.item zs) _ b e
piece_size ParentalRating zs b e = made_sized _ 4 ratings_fill (ratings.item zs) _ b e
piece_size LocalTimeOffset zs b e = made_sized _ 13 offsets_fill (offsets.item zs) _ b e
