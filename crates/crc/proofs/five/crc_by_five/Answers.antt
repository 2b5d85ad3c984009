-- The window moves to the end of s; three of its words leave in the manner of the window of two, and the last two go in.
use mathlib.Core.Path.{ap, ◌∙◌}
use mathlib.Core.List.{[], ◌∷◌}
use Rattle.crc.specs.Inner.Windows.{feed_words}
use Rattle.crc.proofs.five.crc_by_five.Goals as goal

pub returns : goal.returns
unfolding feed_words
returns c =
    let moved = c.to_end-v in
    let v = moved.result in
    c.last_two.ensures
    ∙ c.leave-r.ensures
    ∙ ap (feed_words (v.e ∷ [])) c.leave-q.ensures
    ∙ ap (feed_words (v.d ∷ v.e ∷ [])) c.leave-p.ensures
    ∙ moved.ensures
