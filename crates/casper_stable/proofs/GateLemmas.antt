use Rattle.std.proofs.Common.{◌≡◌, ◌∙◌, ℕ, Bool, List, [], ◌∷◌, suc, refl, sym, ap, arith}
use Rattle.std.specs.Prelude.{slice_set}
use Rattle.std.proofs.lemmas.List.{get_or-set_other}
use Rattle.casper_disk.specs.Vault.{Saved}
use Rattle.casper_space.specs.Changes.{Change, pages_of, with_changes}
use Rattle.casper_root.specs.declared.roots.Roots.{Roots}
use Rattle.casper_commit.specs.Added.{AddsImages}
use Rattle.casper_commit.specs.Pieces.{GoInto}
use Rattle.casper_commit.specs.Root.{body_at}
use Rattle.casper_commit.specs.States.{OpensTo}
use Rattle.casper_commit.proofs.StateLemmas.{stands_same}
use Rattle.casper_map.specs.Mapped.{Mapped}
use Rattle.casper_stable.specs.Opens.{opens, store_of, pages_in}
use Rattle.casper_stable.specs.Kept.{Kept, image_of, roots_in}
use Rattle.casper_stable.specs.Leaves.{IsLeftBy}
use Rattle.casper_stable.specs.Others.{OthersKeepWords}
use Rattle.casper_stable.specs.Sound.{IsSure, free_blocks, root_of}
use Rattle.casper_stable.specs.UntilGate.{LeavesOldAlone, OldUntilGate, WrittenUntilGate}
use Rattle.casper_stable.specs.Writing.{Written, piece_count, piece_place}
use Rattle.casper_stable.specs.LeavesLemmas.{saved_is, took_saved}
use Rattle.casper_stable.specs.OpensLemmas.{map_stands, opens_old}

-- an image that opens to the old root is the old pages with their version
pub old_only : (roots : Roots) (held : Mapped) (content image : List (List ℕ)) (loose : ℕ → Bool) (saved : Saved)
    → (sure : IsSure roots held content loose)
    → OpensTo (root_of sure.base roots) (free_blocks sure.base roots) sure.base image → IsLeftBy (opens image) saved
    → saved ≡ record { image = pages_in content held; version = roots.body.seq }
old_only roots held content image loose saved sure to left =
    let same = (map_stands sure.base content roots held sure.opens.map (stands_same roots.spare_closed
    (root_of sure.base roots) (free_blocks sure.base roots) sure.base content loose sure.stands).2).1 in
    let old : List (List ℕ) → Saved = λ pages. record { image = pages; version = roots.body.seq } in
    saved_is image (store_of sure.base roots held) saved (opens_old sure.base image roots held sure.opens to) left ∙ ap old (sym same)

-- where each image that calls add opens to the old root, a stop leaves the old pages alone
pub leaves_old : {D : Type 0} (content : D → List (List ℕ)) (loose : D → ℕ → Bool) (moment : D → ℕ) (images_since : D → ℕ → List (List ℕ) → Type 0)
    (kept : Kept D) (after : D) → (sure : IsSure (roots_in kept) kept.held (content kept.disk) (loose kept.disk))
    → AddsImages moment images_since kept.disk after (OpensTo (root_of sure.base (roots_in kept)) (free_blocks sure.base (roots_in kept)) sure.base)
    → LeavesOldAlone content moment images_since kept after
leaves_old content loose moment images_since kept after sure adds =
    took_saved (moment kept.disk) (moment after) (images_since kept.disk) (images_since after)
    (OpensTo (root_of sure.base (roots_in kept)) (free_blocks sure.base (roots_in kept)) sure.base)
    (λ saved. saved ≡ record { image = image_of content kept; version = kept.body.seq })
    (λ image saved to left. old_only (roots_in kept) kept.held (content kept.disk) image (loose kept.disk) saved sure to left) adds

-- so it is until the gate's call
pub until_gate : {D : Type 0} (content : D → List (List ℕ)) (loose : D → ℕ → Bool) (moment : D → ℕ) (images_since : D → ℕ → List (List ℕ) → Type 0)
    (kept : Kept D) (written : Written) (at_gate new : D) → (sure : IsSure (roots_in kept) kept.held (content kept.disk) (loose kept.disk))
    → GoInto piece_count piece_place (free_blocks sure.base (roots_in kept)) written
    → WrittenUntilGate content loose moment images_since written kept.standing kept.disk at_gate new
    → OldUntilGate content loose moment images_since kept at_gate new
until_gate content loose moment images_since kept written at_gate new sure into until =
    let stood = until (body_at sure.base kept.standing.slot) (free_blocks sure.base (roots_in kept)) sure.base into sure.stands in record {
      old_alone = leaves_old content loose moment images_since kept at_gate sure stood.old_alone;
      settled = stood.settled;
      gate_alone = stood.gate_alone;
    }

-- changes leave the words of the other pages
pub words_stay : (changes : List Change) (image : List (List ℕ)) → OthersKeepWords (pages_of changes) image (with_changes image changes)
words_stay [] image page others = refl
words_stay (change ∷ changes) image page others =
    words_stay changes (slice_set image change.page change.words) page (λ k d within. others (suc k) d (omega (arith, within)))
    ∙ get_or-set_other image change.page page change.words [] (λ same. others 0 0 (omega arith) (sym same))
