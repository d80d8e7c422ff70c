use Rattle.std.specs.Prelude.{◌≡◌, ℕ, List, ◌++◌, Bool, true, false, ◌&&◌}
use Rattle.std.specs.List.{list_any}
use Rattle.casper_words.specs.Crew.{has_member}
use Rattle.casper_trail.specs.declared.item.Item.{Item}
use Rattle.casper_trail.specs.declared.item.Item.TheVariants as item
use Rattle.casper_trail.specs.Value.{is_write}
use Rattle.casper_trail.specs.Fate.{Open, fate_of}
use Rattle.casper_trail.specs.Association.{association_of}
use Rattle.casper_trail.specs.Image.{image_of, image_with}
use Rattle.casper_trail.specs.TrailView.{is_commit}

-- whether an item is a write of a member
abbrev pub is_write_of : List ℕ → Item → Bool
is_write_of members (item.Entry entry) = is_write entry.op && has_member entry.who members
is_write_of members (item.Mark mark) = false

-- items without a commit leave the image
abbrev pub ImageWithoutCommit : Type 0
ImageWithoutCommit = (base : List (List ℕ)) (items more : List Item) → list_any is_commit more ≡ false → image_of base (items ++ more) ≡ image_of base items

-- where they also leave the association, decide no member and write nothing of one, they leave the image with the association
abbrev pub ImageWithoutMembers : Type 0
ImageWithoutMembers = (base : List (List ℕ)) (items more : List Item) (client : ℕ) → list_any is_commit more ≡ false
    → association_of (items ++ more) client ≡ association_of items client
    → ((who : ℕ) → has_member who (association_of items client) ≡ true → fate_of who more ≡ Open)
    → list_any (is_write_of (association_of items client)) more ≡ false
    → image_with base (items ++ more) client ≡ image_with base items client
