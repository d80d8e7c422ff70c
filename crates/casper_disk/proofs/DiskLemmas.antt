use Rattle.std.proofs.Common.{◌≡◌, ℕ, List, [], refl}
use Rattle.std.proofs.lemmas.List.{ext_get_or}
use Rattle.casper_disk.specs.Disk.{AgreesBut, none_loose}

-- where no block is loose, the one image is the content
pub settled_image : (blocks image : List (List ℕ)) → AgreesBut none_loose blocks image → image ≡ blocks
settled_image blocks image agrees = ext_get_or [] image blocks agrees.count (λ at within. agrees.same at refl)
