use Rattle.std.specs.Prelude.{List, [], ◌∷◌, ⊤}
use Rattle.casper_words.specs.Crew.{IsClient}
use Rattle.casper_trail.specs.declared.item.Item.{Item}
use Rattle.casper_trail.specs.declared.item.Item.TheVariants as item

-- each entry is of a client
abbrev pub AreOfClients : List Item → Type 0
AreOfClients [] = ⊤
AreOfClients (item.Entry entry ∷ following) = IsClient entry.who × AreOfClients following
AreOfClients (item.Mark mark ∷ following) = AreOfClients following
