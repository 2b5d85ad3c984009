-- What a function's `ensures` says, so that a theorem over calls can be held to it by the checker.
use Rattle.std.specs.Prelude.{◌≡◌}
use seplogic.Ra.Ura.{Ura}
use contract.Monad.{fact}
use contract.Lifetimes.{Lfts}
use denote.Triple.Entry.{Args, Res}
use denote.Triple.Clauses.{Ended, Clauses, Lasts, at_exit}

-- the clauses c of a function T have an `ensures` that is P, to the letter, of the arguments, the result and what each `&mut` holds at last
abbrev pub Ensures : {M : Type 1} (𝓤 : Ura M) (T : Ended) → Clauses 𝓤 T
    → ((κs : Lfts T.signature.lifetimes) (a : Args T.signature κs) → Res T.signature κs → Lasts T κs a → Type 0) → Type 2
Ensures 𝓤 T c P =
    (κs : Lfts T.signature.lifetimes) (a : Args T.signature κs) (g : (c κs a).ghost) (r : Res T.signature κs) (ws : Lasts T κs a)
    → (c κs a).ensures g r (at_exit T κs a ws) ≡ fact 𝓤 (P κs a r ws)
