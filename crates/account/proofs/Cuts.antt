-- Pieces of an input, and the account of an input that comes in two parts: however it is cut, the same packets are entered.
use Rattle.std.proofs.Common.{◌≡◌, ℕ, zero, suc, ◌+◌, ◌-◌, ◌*◌, ◌/◌, ◌%◌, ◌<◌, ◌≤◌, List, [], ◌∷◌, ◌++◌, length, take, drop, sym, refl, ap, ◌∙◌, suc-add, zero-add, arith, length-append, length-drop, drop-drop}
use lib.ListN.{get_or-append}
use lib.Seq.{take-append-le, drop-append-le}
use Rattle.account.specs.Entered.{first_pid, fresh_account, Kept, kept_as, entered, entered_all, pieces}
use Rattle.account.specs.Input.{account_of, rest_of}

pub pieces_add : (q m : ℕ) (l : List ℕ) → pieces (q + m) l ≡ pieces q l ++ pieces m (drop (q * 188) l)
pieces_add zero m l =
    let none : 0 * 188 ≡ 0 = omega arith in
    ap (λ (n : ℕ). pieces n l) (zero-add m) ∙ ap (λ (n : ℕ). pieces m (drop n l)) (sym none)
pieces_add (suc q) m l =
    let more : 188 + q * 188 ≡ suc q * 188 = omega arith in
    ap (λ (n : ℕ). pieces n l) (suc-add q m)
    ∙ ap (λ (x : List (List ℕ)). take 188 l ∷ x)
    (pieces_add q m (drop 188 l)
    ∙ ap (λ (x : List ℕ). pieces q (drop 188 l) ++ pieces m x)
    (drop-drop (q * 188) 188 l ∙ ap (λ (n : ℕ). drop n l) more))

-- only whole pieces are looked at
pub pieces_front : (q : ℕ) (a b : List ℕ) → q * 188 ≤ length a → pieces q (a ++ b) ≡ pieces q a
pieces_front zero a b k = refl
pieces_front (suc q) a b k =
    let one : 188 ≤ length a = omega arith in
    ap (λ (x : List ℕ). x ∷ pieces q (drop 188 (a ++ b))) (take-append-le 188 a b one)
    ∙ ap (λ (x : List ℕ). take 188 a ∷ pieces q x) (drop-append-le 188 a b one)
    ∙ ap (λ (x : List (List ℕ)). take 188 a ∷ x) (pieces_front q (drop 188 a) b (omega (arith, length-drop 188 a)))

pub entered_append : (k : Kept) (a b : List (List ℕ)) → entered_all k (a ++ b) ≡ entered_all (entered_all k a) b
entered_append k [] b = refl
entered_append k (p ∷ a) b = entered_append (entered k p) a b

pub pid_front : (a b : List ℕ) → 188 ≤ length a → first_pid (a ++ b) ≡ first_pid a
pid_front a b k = simp (get_or-append a b 0 1 (omega arith), get_or-append a b 0 2 (omega arith))

module _ (input more hold out : List ℕ) where
  pub rest_more : drop (length input - length input % 188) (input ++ more) ≡ rest_of input ++ more
  rest_more = drop-append-le (length input - length input % 188) input more (omega arith)

  pub pieces_more : pieces (length (input ++ more) / 188) (input ++ more)
      ≡ pieces (length input / 188) input ++ pieces ((length input % 188 + length more) / 188) (rest_of input ++ more)
  pieces_more =
      let q : ℕ = length input / 188 in
      let m : ℕ = (length input % 188 + length more) / 188 in
      let count : length (input ++ more) / 188 ≡ q + m = omega (arith, length-append input more) in
      let at : q * 188 ≡ length input - length input % 188 = omega arith in
      ap (λ (n : ℕ). pieces n (input ++ more)) count
      ∙ pieces_add q m (input ++ more)
      ∙ ap (λ (x : List (List ℕ)). x ++ pieces m (drop (q * 188) (input ++ more)))
      (pieces_front q input more (omega arith))
      ∙ ap (λ (n : ℕ). pieces q input ++ pieces m (drop n (input ++ more))) at
      ∙ ap (λ (x : List ℕ). pieces q input ++ pieces m x) rest_more

  -- an input that has begun goes on
  pub account_more : 188 ≤ length input
      → account_of (input ++ more) hold out
      ≡ entered_all (account_of input hold out) (pieces ((length input % 188 + length more) / 188) (rest_of input ++ more))
  account_more k =
      ap (λ (n : ℕ). entered_all (kept_as (fresh_account n) hold out)
      (pieces (length (input ++ more) / 188) (input ++ more)))
      (pid_front input more k)
      ∙ ap (entered_all (kept_as (fresh_account (first_pid input)) hold out)) pieces_more
      ∙ entered_append (kept_as (fresh_account (first_pid input)) hold out) (pieces (length input / 188) input)
      (pieces ((length input % 188 + length more) / 188) (rest_of input ++ more))

-- an input of less than a packet has changed nothing
pub account_none : (input hold out : List ℕ) → length input < 188
    → account_of input hold out ≡ kept_as (fresh_account (first_pid input)) hold out
account_none input hold out k =
    let none : length input / 188 ≡ 0 = omega arith in
    ap (λ (n : ℕ). entered_all (kept_as (fresh_account (first_pid input)) hold out) (pieces n input)) none
