use Rattle.np_text.proofs.AddressLaws.{address_of-dotted, dotted_shortest}
use Rattle.np_text.proofs.laws.addresses_read_back.Goals as goal

pub returns : goal.returns
returns c = record { back = address_of-dotted; shortest = dotted_shortest }
