use Rattle.std.specs.Prelude.{◌≡◌, ℕ, List, false, Contains}
use Rattle.casper_trail.specs.Image.{image_of, image_with}
use Rattle.casper_model.specs.Frozen.{open_writes_of, pages_modified_by, members_of_stabilisation}
use Rattle.casper_model.specs.Own.{Own}
use Rattle.casper_model.specs.Shared.{Shared}
use Rattle.casper_model.specs.Stabilisation.{Stabilisation, is_gathering}
use Rattle.casper_turns.specs.KeepsClient.{KeepsClient}
use Rattle.casper_turns.specs.Good.{IsGoodWith}
use Rattle.casper_turns.specs.Right.{ReadsAreRight}
use Rattle.casper_turns.specs.CommitsNothing.{CommitsNothing}

-- what a client may rely on stands while nothing happens, and while one thing happens after another
abbrev pub ApartItself : Type 0
ApartItself = (who : ℕ) (shared : Shared) → KeepsClient who shared shared

abbrev pub ApartAgain : Type 0
ApartAgain = (who : ℕ) (shared middle after : Shared) → KeepsClient who shared middle → KeepsClient who middle after → KeepsClient who shared after

-- it keeps what is good with the client's own part, and its pending reads right
abbrev pub GoodWhileApart : Type 0
GoodWhileApart = (shared after : Shared) (own : Own) → IsGoodWith shared own → KeepsClient own.who shared after → IsGoodWith after own

abbrev pub RightWhileApart : Type 0
RightWhileApart = (base : List (List ℕ)) (shared after : Shared) (own : Own) → IsGoodWith shared own → KeepsClient own.who shared after
    → ReadsAreRight base shared own → ReadsAreRight base after own

-- nothing is committed while nothing happens, and while one thing happens after another
abbrev pub StillItself : Type 0
StillItself = (shared : Shared) → CommitsNothing shared shared

abbrev pub StillAgain : Type 0
StillAgain = (shared middle after : Shared) → CommitsNothing shared middle → CommitsNothing middle after → CommitsNothing shared after

-- so the stable image stands
abbrev pub ImageWhileStill : Type 0
ImageWhileStill = (shared after : Shared) → CommitsNothing shared after → (base : List (List ℕ)) → image_of base after.trail ≡ image_of base shared.trail

-- and of each association that is sealed or in doubt the image with it, its open writes, and the pages of its job
abbrev pub HeldImageWhileStill : Type 0
HeldImageWhileStill =
    (shared after : Shared) → CommitsNothing shared after → (one : Stabilisation) → Contains shared.stabilisations one → is_gathering one.phase ≡ false
    → (base : List (List ℕ)) → image_with base after.trail one.lead ≡ image_with base shared.trail one.lead

abbrev pub OpenWritesWhileStill : Type 0
OpenWritesWhileStill =
    (shared after : Shared) → CommitsNothing shared after → (one : Stabilisation) → Contains shared.stabilisations one → is_gathering one.phase ≡ false
    → open_writes_of after.trail (members_of_stabilisation after one) ≡ open_writes_of shared.trail (members_of_stabilisation shared one)

abbrev pub JobWhileStill : Type 0
JobWhileStill =
    (shared after : Shared) → CommitsNothing shared after → (one : Stabilisation) → Contains shared.stabilisations one → is_gathering one.phase ≡ false
    → pages_modified_by after.trail (members_of_stabilisation after one) ≡ pages_modified_by shared.trail (members_of_stabilisation shared one)
