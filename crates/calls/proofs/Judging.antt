-- What holds of the sections of a run of the collector holds of those of a run of `lohitunga_collect`.
use mathlib.Core.Path.{◌≡◌, refl, sym, ap, ◌∙◌, subst}
use mathlib.Core.List.{List, [], ◌∷◌, map}
use Prim.Native.Nat.{ℕ}
use lib.ListN.{length}
use Rattle.wire.specs.Each.{Each}
use Rattle.section.specs.Faults.{First}
use Rattle.collector.specs.Collected.{fresh_record}
use Rattle.history.specs.History.{value_of}
use Rattle.history.specs.Run as beneath
use Rattle.history.specs.Run.{Lent}
use Rattle.history.specs.Demand3.{rejected_in}
use Rattle.history.specs.Judging.{Legal, Faulty}
use Rattle.history.specs.Judging as beneath-judging
use Rattle.history.proofs.Judging as under
use Rattle.cabinet.specs.declared.collect.Record.{Record}
use Rattle.calls.specs.Collects.{Promised, Call, call_says, Beneath}
use Rattle.calls.specs.Judging.{lent_of, story_of, rejected_by, OnlyAccepted, RejectedRefused, KeptNumber}
use Rattle.calls.proofs.Collects.{runs_beneath, handed_out}

lent_beneath : (ks : List beneath.Call) → map lent_of (map call_says ks) ≡ map beneath.lent_of ks
lent_beneath [] = refl
lent_beneath (k ∷ ks) = ap (λ (l : List Lent). beneath.lent_of k ∷ l) (lent_beneath ks)

-- the sections rejected are those of the calls beneath
rejected_out : (pid : ℕ) {hold : List ℕ} {calls : List Call} {r : Record} {hold' : List ℕ}
    → (b : Beneath (fresh_record pid) hold calls r hold')
    → rejected_by pid hold calls ≡ beneath-judging.rejected_by pid hold b.under
rejected_out pid {hold = hold} b =
    ap (λ (l : List Lent). map (map value_of) (rejected_in (story_of pid (length hold) l)))
    (ap (map lent_of) b.calls_say ∙ lent_beneath b.under)

pub only_accepted : OnlyAccepted Promised
only_accepted pid fresh hold calls r hold' is x =
    let b = runs_beneath pid fresh hold calls r hold' is x in
    subst (Each Legal) (sym (handed_out b)) (under.only_accepted pid hold b.under b.rec hold' b.run)

pub rejected_refused : RejectedRefused Promised
rejected_refused pid fresh hold calls r hold' is x =
    let b = runs_beneath pid fresh hold calls r hold' is x in
    subst (Each Faulty) (sym (rejected_out pid b)) (under.rejected_refused pid hold b.under b.rec hold' b.run)

pub kept_number : KeptNumber Promised
kept_number pid fresh hold calls r hold' is x =
    let b = runs_beneath pid fresh hold calls r hold' is x in
    let same = sym (rejected_out pid b) in
    let number = b.record_stands.rejection in
    let last = under.last_number_lem pid hold b.under b.rec hold' b.run in (
      λ front s e. subst (λ (n : ℕ). (q : ℕ) × First s n q) number (last.0 front s (same ∙ e)),
      λ e. sym number ∙ last.1 (same ∙ e),
    )
