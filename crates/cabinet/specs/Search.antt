-- What a search says in numbers.
use Rattle.search.specs.Search.{Outcome, refusing, hit, none}
use Rattle.cabinet.specs.declared.tag_search.SearchAnswer.{SearchAnswer}

-- a hit in the loop of number k, its body of n bytes at the place b; none; or a refusal of number k with the place p
abbrev pub search_says : Outcome → SearchAnswer
search_says (hit k b n) = record { number = 0; place = 0; found = 1; entry = k; start = b; size = n }
search_says none = record { number = 0; place = 0; found = 0; entry = 0; start = 0; size = 0 }
search_says (refusing k p) = record { number = k; place = p; found = 0; entry = 0; start = 0; size = 0 }
