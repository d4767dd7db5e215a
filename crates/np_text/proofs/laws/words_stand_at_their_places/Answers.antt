use Rattle.np_text.proofs.PlaceLaws.{placed_words-slices, placed_words-apart}
use Rattle.np_text.proofs.WordLaws.{map-placed_words}
use Rattle.np_text.proofs.laws.words_stand_at_their_places.Goals as goal

pub returns : goal.returns
returns c = record { words = map-placed_words 0; slices = placed_words-slices; apart = placed_words-apart 0 }
