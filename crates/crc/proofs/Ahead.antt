-- Words that are still to go in, with the bytes behind them: a word comes from the bytes, a word leaves, and in the end no byte is left.
use mathlib.Core.Path.{◌≡◌, refl, sym, ap, ap₂, ◌∙◌}
use mathlib.Core.List.{List, [], ◌∷◌, ◌++◌}
use Prim.Native.Nat.{ℕ, ◌+◌, ◌*◌, ◌/◌, ◌%◌, ◌^◌, ◌<◌, ◌≤◌}
use native.Mathlib.Omega.{arith}
use lib.Bits.{xor_comm, xor_lt, xor_zero_r}
use lib.ListN.{length, drop, drop_of_length-le}
use Rattle.wire.specs.Bytes.{Bytes}
use Rattle.crc.specs.Crc.{feed_bits, feed_bytes, crc}
use Rattle.moves.specs.Inner.Moves.{second, third, fourth, fifth, added}
use Rattle.crc.specs.Inner.Windows.{long_at, feed_words, Ahead, FiveAt, Fronts}
use Rattle.moves.proofs.Xor.{◌⊕◌, xor_assoc, xor_left_comm}
use Rattle.crc.proofs.Bytes.{long_front}
use Rattle.crc.proofs.Feeding.{words_append}
use Rattle.crc.proofs.Leaving.{leaves_five, second_lt, third_lt, fourth_lt}

-- The sum `added`, as the code takes it: what two words in a row add stands side by side.

side_by_side : (m a b c d e f g h : ℕ) → m ⊕ (a ⊕ b) ⊕ (c ⊕ d) ⊕ (e ⊕ f) ⊕ g ⊕ h ≡ m ⊕ a ⊕ (c ⊕ b) ⊕ (e ⊕ g ⊕ d) ⊕ (f ⊕ h)
side_by_side m a b c d e f g h = simp (xor_assoc, xor_comm, xor_left_comm)

pub in_pairs : (m p q r t : ℕ)
    → m ⊕ ((p * 2 ^ 20 % 2 ^ 64) ⊕ (q / 2 ^ 44)) ⊕ ((q * 2 ^ 45 % 2 ^ 64) ⊕ (r / 2 ^ 19))
    ⊕ ((r * 2 ^ 47 % 2 ^ 64) ⊕ (t / 2 ^ 17)) ⊕ (r * 2 ^ 9 % 2 ^ 64)
    ⊕ (t / 2 ^ 55)
    ≡ added m p q r t
unfolding added second third fourth fifth
in_pairs m p q r t =
    side_by_side m (p * 2 ^ 20 % 2 ^ 64) (q / 2 ^ 44) (q * 2 ^ 45 % 2 ^ 64) (r / 2 ^ 19) (r * 2 ^ 47 % 2 ^ 64)
    (t / 2 ^ 17) (r * 2 ^ 9 % 2 ^ 64) (t / 2 ^ 55)

-- The sum `added`, where some of the four words are not there.

second_zero : second 0 ≡ 0
unfolding second
second_zero = refl

third_zero : third 0 ≡ 0
unfolding third
third_zero = refl

fourth_zero : fourth 0 ≡ 0
unfolding fourth
fourth_zero = refl

fifth_zero : fifth 0 ≡ 0
unfolding fifth
fifth_zero = refl

module _ (m : ℕ) where
  all_four : (p q r t : ℕ) → added m p q r t ≡ m ⊕ fifth p ⊕ fourth q ⊕ third r ⊕ second t
  unfolding added
  all_four p q r t = refl

  the_second : (t : ℕ) → added m 0 0 0 t ≡ m ⊕ second t
  unfolding added
  the_second t = simp (fifth_zero, fourth_zero, third_zero, xor_zero_r)

  the_third : (r : ℕ) → added m 0 0 r 0 ≡ m ⊕ third r
  unfolding added
  the_third r = simp (fifth_zero, fourth_zero, second_zero, xor_zero_r)

  the_fourth : (q : ℕ) → added m 0 q 0 0 ≡ m ⊕ fourth q
  unfolding added
  the_fourth q = simp (fifth_zero, third_zero, second_zero, xor_zero_r)

  the_fifth : (p : ℕ) → added m p 0 0 0 ≡ m ⊕ fifth p
  unfolding added
  the_fifth p = simp (fourth_zero, third_zero, second_zero, xor_zero_r)

  from_third : (r t : ℕ) → added m 0 0 r t ≡ m ⊕ third r ⊕ second t
  unfolding added
  from_third r t = simp (fifth_zero, fourth_zero, xor_zero_r)

  from_fourth : (q r t : ℕ) → added m 0 q r t ≡ m ⊕ fourth q ⊕ third r ⊕ second t
  unfolding added
  from_fourth q r t = simp (fifth_zero, xor_zero_r)

  to_third : (p q r : ℕ) → added m p q r 0 ≡ m ⊕ fifth p ⊕ fourth q ⊕ third r
  unfolding added
  to_third p q r = simp (second_zero, xor_zero_r)

  to_fourth : (p q : ℕ) → added m p q 0 0 ≡ m ⊕ fifth p ⊕ fourth q
  unfolding added
  to_fourth p q = simp (third_zero, second_zero, xor_zero_r)

-- Five words leave, one after the other: c, d and e as they are when they stand at the front.
module _ (a b c₀ d₀ e₀ m n o p q : ℕ) where
  abbrev c : ℕ
  c = c₀ ⊕ second a

  abbrev d : ℕ
  d = d₀ ⊕ third a ⊕ second b

  abbrev e : ℕ
  e = e₀ ⊕ fourth a ⊕ third b ⊕ second c

  c_lt : a < 2 ^ 64 → c₀ < 2 ^ 64 → c < 2 ^ 64
  c_lt ha hc = xor_lt 64 c₀ (second a) hc (second_lt a ha)

  d_lt : a < 2 ^ 64 → b < 2 ^ 64 → d₀ < 2 ^ 64 → d < 2 ^ 64
  d_lt ha hb hd = xor_lt 64 (d₀ ⊕ third a) (second b) (xor_lt 64 d₀ (third a) hd (third_lt a ha)) (second_lt b hb)

  e_lt : a < 2 ^ 64 → b < 2 ^ 64 → c₀ < 2 ^ 64 → e₀ < 2 ^ 64 → e < 2 ^ 64
  e_lt ha hb hc he =
      xor_lt 64 (e₀ ⊕ fourth a ⊕ third b) (second c)
      (xor_lt 64 (e₀ ⊕ fourth a) (third b) (xor_lt 64 e₀ (fourth a) he (fourth_lt a ha)) (third_lt b hb))
      (second_lt c (c_lt ha hc))

  five_leave : a < 2 ^ 64 → b < 2 ^ 64 → c₀ < 2 ^ 64 → d₀ < 2 ^ 64 → e₀ < 2 ^ 64
      → feed_words
      ((m ⊕ fifth a ⊕ fourth b ⊕ third c ⊕ second d)
      ∷ (n ⊕ fifth b ⊕ fourth c ⊕ third d ⊕ second e)
      ∷ (o ⊕ fifth c ⊕ fourth d ⊕ third e)
      ∷ (p ⊕ fifth d ⊕ fourth e)
      ∷ (q ⊕ fifth e)
      ∷ [])
      0
      ≡ feed_words (a ∷ b ∷ c₀ ∷ d₀ ∷ e₀ ∷ m ∷ n ∷ o ∷ p ∷ q ∷ []) 0
  unfolding feed_words
  five_leave ha hb hc hd he =
      leaves_five e (m ⊕ fifth a ⊕ fourth b ⊕ third c ⊕ second d) (n ⊕ fifth b ⊕ fourth c ⊕ third d)
      (o ⊕ fifth c ⊕ fourth d) (p ⊕ fifth d) q (e_lt ha hb hc he)
      ∙ ap (feed_words (q ∷ []))
      (leaves_five d e (m ⊕ fifth a ⊕ fourth b ⊕ third c) (n ⊕ fifth b ⊕ fourth c) (o ⊕ fifth c) p (d_lt ha hb hd))
      ∙ ap (feed_words (p ∷ q ∷ [])) (leaves_five c d (e₀ ⊕ fourth a ⊕ third b) (m ⊕ fifth a ⊕ fourth b) (n ⊕ fifth b) o (c_lt ha hc))
      ∙ ap (feed_words (o ∷ p ∷ q ∷ [])) (leaves_five b c (d₀ ⊕ third a) (e₀ ⊕ fourth a) (m ⊕ fifth a) n hb)
      ∙ ap (feed_words (n ∷ o ∷ p ∷ q ∷ [])) (leaves_five a b c₀ d₀ e₀ m ha)

module _ {s : List ℕ} where
  -- other words that give the same
  pub instead : {v w : List ℕ} {i : ℕ} → Ahead s v i → feed_words w 0 ≡ feed_words v 0 → Ahead s w i
  instead {v} {w} {i} k e = record { within = k.within; whole = k.whole; rest = ap (feed_bytes (drop i s)) e ∙ k.rest }

  -- the next word comes
  pub comes : Bytes s → (v : List ℕ) (i j m : ℕ) → Ahead s v i → j ≡ i + 8 → j ≤ length s → m ≡ long_at s i → Ahead s (v ++ (m ∷ [])) j
  unfolding feed_words
  comes hs v i j m k ej h em =
      let next : i + 8 ≤ length s = omega arith in
      record {
        within = h;
        whole = omega (arith, k.whole);
        rest =
            ap₂ (λ (n x : ℕ). feed_bytes (drop n s) x) ej (words_append v (m ∷ []) 0 ∙ ap (λ (w : ℕ). feed_bits 64 w (feed_words v 0)) em)
            ∙ sym (long_front s hs i (feed_words v 0) next)
            ∙ k.rest;
      }

  -- where a byte is left, a word is
  pub one_more : {v : List ℕ} {i : ℕ} → Ahead s v i → i < length s → i + 8 ≤ length s
  one_more k h = omega (arith, k.whole)

  -- no byte is left
  pub ends : (v : List ℕ) (i : ℕ) → Ahead s v i → length s ≤ i → feed_words v 0 ≡ crc s
  unfolding feed_bytes
  ends v i k h = sym (ap (λ (l : List ℕ). feed_bytes l (feed_words v 0)) (drop_of_length-le s h)) ∙ k.rest

module _ {s : List ℕ} (hs : Bytes s) where
  -- a word comes behind two, and two others give what the three do
  pub two_move : {a b c d m i : ℕ} → Ahead s (a ∷ b ∷ []) i → i < length s → m ≡ long_at s i
      → feed_words (c ∷ d ∷ []) 0 ≡ feed_words (a ∷ b ∷ m ∷ []) 0 → Ahead s (c ∷ d ∷ []) (i + 8)
  two_move {a} {b} {m = m} {i = i} k h em e = instead (comes hs (a ∷ b ∷ []) i (i + 8) m k refl (one_more k h) em) e

  -- three words more make a window of five
  pub three_come : (a b c d e i : ℕ) → Ahead s (a ∷ b ∷ []) i → i + 24 ≤ length s → c ≡ long_at s i
      → d ≡ long_at s (i + 8) → e ≡ long_at s (i + 16)
      → Ahead s (a ∷ b ∷ c ∷ d ∷ e ∷ []) (i + 24)
  three_come a b c d e i k h ec ed ee =
      let one = comes hs (a ∷ b ∷ []) i (i + 8) c k refl (omega arith) ec in
      let two = comes hs (a ∷ b ∷ c ∷ []) (i + 8) (i + 16) d one (omega arith) (omega arith) ed in
      comes hs (a ∷ b ∷ c ∷ d ∷ []) (i + 16) (i + 24) e two (omega arith) h ee

  -- the window of five moves on by a word
  pub five_move : (a b c d e m c' d' e' m' i : ℕ) → Ahead s (a ∷ b ∷ c ∷ d ∷ e ∷ []) i → a < 2 ^ 64 → i + 8 ≤ length s → m ≡ long_at s i
      → c' ≡ added c 0 0 0 a → d' ≡ added d 0 0 a 0 → e' ≡ added e 0 a 0 0 → m' ≡ added m a 0 0 0
      → Ahead s (b ∷ c' ∷ d' ∷ e' ∷ m' ∷ []) (i + 8)
  five_move a b c d e m c' d' e' m' i k ha h em ec ed ee el =
      instead (comes hs (a ∷ b ∷ c ∷ d ∷ e ∷ []) i (i + 8) m k refl h em)
      (ap (λ (l : List ℕ). feed_words l 0) (cc (the_second c a, the_third d a, the_fourth e a, the_fifth m a)) ∙
      leaves_five a b c d e m ha)

  -- five words more come behind it
  five_come : (a b c d e m n o p q i j : ℕ) → Ahead s (a ∷ b ∷ c ∷ d ∷ e ∷ []) i → FiveAt s i m n o p q j → j ≤ length s
      → Ahead s (a ∷ b ∷ c ∷ d ∷ e ∷ m ∷ n ∷ o ∷ p ∷ q ∷ []) j
  five_come a b c d e m n o p q i j k l h =
      let one = comes hs (a ∷ b ∷ c ∷ d ∷ e ∷ []) i (i + 8) m k refl (omega arith) l.first in
      let two = comes hs (a ∷ b ∷ c ∷ d ∷ e ∷ m ∷ []) (i + 8) (i + 16) n one (omega arith) (omega arith) l.second in
      let three = comes hs (a ∷ b ∷ c ∷ d ∷ e ∷ m ∷ n ∷ []) (i + 16) (i + 24) o two (omega arith) (omega arith) l.third in
      let four = comes hs (a ∷ b ∷ c ∷ d ∷ e ∷ m ∷ n ∷ o ∷ []) (i + 24) (i + 32) p three (omega arith) (omega arith) l.fourth in
      comes hs (a ∷ b ∷ c ∷ d ∷ e ∷ m ∷ n ∷ o ∷ p ∷ []) (i + 32) j q four (omega arith) h l.fifth

  -- and the window moves on by all five of them
  pub five_turn : (a b c d e a' b' c' d' e' m n o p q m' n' o' p' q' i j : ℕ) → Ahead s (a ∷ b ∷ c ∷ d ∷ e ∷ []) i → j ≤ length s
      → a < 2 ^ 64 → b < 2 ^ 64 → c < 2 ^ 64 → d < 2 ^ 64 → e < 2 ^ 64 → Fronts a b c d e a' b' c' d' e' → FiveAt s i m n o p q j
      → m' ≡ added m a' b' c' d' → n' ≡ added n b' c' d' e' → o' ≡ added o c' d' e' 0 → p' ≡ added p d' e' 0 0 → q' ≡ added q e' 0 0 0
      → Ahead s (m' ∷ n' ∷ o' ∷ p' ∷ q' ∷ []) j
  five_turn a b c d e a' b' c' d' e' m n o p q m' n' o' p' q' i j k h ha hb hc hd he f l em en eo ep eq =
      instead (five_come a b c d e m n o p q i j k l h)
      (ap (λ (l : List ℕ). feed_words l 0)
      (cc (
        the_second c a,
        from_third d a b,
        from_fourth e a b c',
        all_four m a' b' c' d',
        all_four n b' c' d' e',
        to_third o c' d' e',
        to_fourth p d' e',
        the_fifth q e',
      ))
      ∙ five_leave a b c d e m n o p q ha hb hc hd he)
