use Rattle.std.proofs.Common.{rules, suc, ◌≡◌, ◌∙◌, ◌+◌, ◌-◌, ◌<◌, ◌&&◌, ℕ, Bool, true, false, List, [], ◌∷◌, length, map, get_or, refl, sym, ap, subst, inl, inr, ⊎_elim, arith}
use Rattle.std.specs.Prelude.{Option, Some, None, Ok, not, nat_le}
use Rattle.std.proofs.lemmas.List.{get_or_default}
use Rattle.std.proofs.lemmas.Option.{none-some}
use Rattle.casper_disk.specs.Vault.{Saved, IsOldOrNewImage, as_changes}
use Rattle.casper_space.specs.Changes.{Change, last_version, with_changes}
use Rattle.casper_words.specs.BlockWords.{words_of_block}
use Rattle.casper_root.specs.Fitting.{Fits}
use Rattle.casper_root.specs.Format.{body_block}
use Rattle.casper_root.specs.Slots.{other_slot}
use Rattle.casper_root.specs.Spare.{succeeded_by, with_spare}
use Rattle.casper_root.specs.declared.body.Body.{Body}
use Rattle.casper_root.specs.declared.roots.Roots.{Roots}
use Rattle.casper_commit.specs.declared.standing.Standing.{Standing}
use Rattle.casper_commit.specs.Pieces.{GoInto}
use Rattle.casper_commit.specs.Root.{seq_of, body_at}
use Rattle.casper_commit.specs.States.{StandsBeside, none_free, next_root}
use Rattle.casper_commit.proofs.OpenedLemmas.{next_is_greater}
use Rattle.casper_commit.proofs.StateLemmas.{stands_same, stands_opens}
use Rattle.casper_map.specs.Levels.{block_in, names}
use Rattle.casper_map.specs.Mapped.{Mapped}
use Rattle.casper_map.specs.PlanLaws.{IsWhole}
use Rattle.casper_map.specs.Planned.{Planned, IsPlan, moved, with_plan, block_numbers}
use Rattle.casper_map.specs.Numbers.{block_of_numbers}
use Rattle.casper_map.specs.Reading.{opened_map}
use Rattle.casper_map.proofs.FreeLemmas.{plans_take_free_frames}
use Rattle.casper_map.proofs.OpenedLemmas.{all_in}
use Rattle.casper_stable.specs.Opens.{opens, store_of, pages_in}
use Rattle.casper_stable.specs.Kept.{roots_of, next_body, change_written, changes_written}
use Rattle.casper_stable.specs.Leaves.{IsLeftBy}
use Rattle.casper_stable.specs.Sound.{IsFit, IsSure, IsDoubtful, IsOnDisk, OpensToMap, free_blocks, root_of}
use Rattle.casper_stable.specs.Writing.{Written, IsWritten, HoldsWritten, OpensToWritten, IsOldOrWritten, NextStands, GateDecides, piece_count, piece_place, piece_frames}
use Rattle.casper_stable.specs.LeavesLemmas.{saved_is}
use Rattle.casper_stable.specs.OpensLemmas.{map_found, map_stands, opens_old, opens_next, opens_to_next, HoldMaps, written_stand}
use Rattle.casper_stable.proofs.PieceLemmas.{pieces_long, page_frame, map_frame}
use Rattle.casper_stable.specs.SoundLemmas.{next_is, whole_after, sure_next, doubt_next}

-- what is written goes into free frames
pub goes_free : (base : List (List ℕ)) (roots : Roots) (written : Written) → IsWritten written → opened_map base roots ≡ Ok written.held
    → GoInto piece_count piece_place (free_blocks base roots) written
goes_free base roots written is opened piece early =
    let frame = get_or (piece_frames written) piece 0 in
    let free = (plans_take_free_frames written.held written.plan is.planned).free piece 0 (omega (arith, early, pieces_long written)) in
    let found = map_found base roots written.held opened in
    let named : names (all_in base roots) frame ≡ false = ap (λ (map : Mapped). names map.places frame) found.1 ∙ free in
    let back : 5 + frame - 5 ≡ frame = omega arith in
    let high : nat_le 5 (5 + frame) ≡ true = search rules in
    ap (λ (number : ℕ). nat_le 5 (5 + frame) && not (names (all_in base roots) number)) back
    ∙ ap (λ test. nat_le 5 (5 + frame) && not test) named ∙ ap (λ test. test && true) high

-- the new map blocks are in their frames
pub maps_held : (written : Written) (free : ℕ → Bool) (base framed : List (List ℕ)) → HoldsWritten written free base framed
    → HoldMaps framed written.held written.plan
maps_held written free base framed is k d within =
    let pages = written.plan.pages in
    let maps = written.plan.maps in
    let piece = length pages + k in
    let back : piece - length pages ≡ k = omega arith in
    let frame : get_or (piece_frames written) piece 0 ≡ (get_or {A = ℕ × ℕ} maps k d).1 =
    map_frame pages maps piece (omega arith) (omega (arith, within)) ∙ ap (λ (at : ℕ). (get_or {A = ℕ × ℕ} maps at (0, 0)).1) back
    ∙ ap (λ (move : ℕ × ℕ). move.1) (get_or_default maps k (0, 0) d within) in
    let move : get_or {A = ℕ × ℕ} maps (piece - length pages) (0, 0) ≡ get_or {A = ℕ × ℕ} maps k d =
    ap (λ (at : ℕ). get_or {A = ℕ × ℕ} maps at (0, 0)) back ∙ get_or_default maps k (0, 0) d within in
    ap (block_in framed) (sym frame) ∙ (is.holds piece (omega (arith, within))).map (omega arith)
    ∙ ap (λ (move : ℕ × ℕ). block_of_numbers (block_numbers (with_plan written.plan written.held) move.0)) move

cons_same : {T : Type 0} (one other : T) (ones others : List T) → one ∷ ones ≡ other ∷ others → (one ≡ other) × (ones ≡ others)
cons_same one other ones others same = (cc, cc)

-- changes with the pages and the words of moves
changes_match : (framed : List (List ℕ)) (moves : List (ℕ × ℕ)) (changes : List (ℕ × List ℕ))
    → map (λ (change : ℕ × List ℕ). change.0) changes ≡ moved moves
    → ((k : ℕ) → k < length moves
    → words_of_block (block_in framed (get_or {A = ℕ × ℕ} moves k (0, 0)).1) ≡ (get_or {A = ℕ × List ℕ} changes k (0, [])).1)
    → map (change_written framed) moves ≡ as_changes changes
changes_match framed [] [] pages words = refl
changes_match framed [] (change ∷ changes) pages words = cc
changes_match framed (move ∷ moves) [] pages words = cc
changes_match framed (move ∷ moves) (change ∷ changes) pages words =
    let same = cons_same change.0 move.0 (map (λ (change : ℕ × List ℕ). change.0) changes) (moved moves) pages in
    let first : ℕ → List ℕ → Change = λ page words. record { page = page; words = words } in
    ap (λ rest. change_written framed move ∷ rest) (changes_match framed moves changes same.1 (λ k within. words (suc k) (omega
    (arith, within))))
    ∙ ap (λ (page : ℕ). first page (words_of_block (block_in framed move.1)) ∷ as_changes changes) (sym same.0)
    ∙ ap (λ (list : List ℕ). first change.0 list ∷ as_changes changes) (words 0 (omega arith))

-- the pages have their new words in the frames of the plan
pub changes_held : (written : Written) (free : ℕ → Bool) (base framed : List (List ℕ)) → IsWritten written
    → HoldsWritten written free base framed
    → changes_written framed written.plan ≡ as_changes written.changes
changes_held written free base framed is holds =
    changes_match framed written.plan.pages written.changes is.pages
    (λ k within. ap (λ (frame : ℕ). words_of_block (block_in framed frame)) (sym (page_frame written.plan.pages written.plan.maps k within))
    ∙ (holds.holds k (omega (arith, within))).page within)

-- what the next version holds, and what one in doubt or the old one does
pub record AfterOk (roots : Roots) (held : Mapped) (plan : Planned) (changes : List Change) (before content : List (List ℕ)) (loose : ℕ
    → Bool) : Type 0 where
  pub sure : IsSure (succeeded_by (next_body roots.body held plan) roots) (with_plan plan held) content loose
  pub image : pages_in content (with_plan plan held) ≡ with_changes (pages_in before held) changes

pub after_ok : (size : ℕ) (roots : Roots) (written : Written) (content after : List (List ℕ)) (loose now : ℕ → Bool)
    → IsWritten written → Fits size roots → IsWhole roots written.held
    → roots.body.seq < last_version → (sure : IsSure roots written.held content loose)
    → NextStands written (free_blocks sure.base roots) sure.base (record { slot = other_slot roots.slot; spare_closed = false })
    (body_block (next_body roots.body written.held written.plan)) after now
    → AfterOk roots written.held written.plan (as_changes written.changes) content after now
after_ok size roots written content after loose now is fits whole more sure next =
    let held = written.held in
    let plan = written.plan in
    let free = free_blocks sure.base roots in
    let root = next_root roots.slot (body_block (next_body roots.body held plan)) in
    let maps = maps_held written free sure.base next.framed next.holds in
    let to = stands_opens false root none_free next.framed after now next.stands in
    let opened = opens_to_next sure.base next.framed after roots held plan sure.opens fits.sizes fits.maps is.planned
    (next_is size roots held plan fits whole is.planned more) next.holds.agrees maps to in
    let same = (map_stands sure.base content roots held sure.opens.map (stands_same roots.spare_closed
    (root_of sure.base roots) free sure.base content loose sure.stands).2).1 in
    record {
      sure = sure_next size sure.base next.framed after roots held plan now fits whole is.planned more sure.opens next.holds.agrees maps next.stands;
      image = opened.pages ∙ ap (λ pages. with_changes pages (changes_written next.framed plan)) (sym same)
          ∙ ap (with_changes (pages_in content held)) (changes_held written free sure.base next.framed is next.holds);
    }

pub record AfterDoubt (roots : Roots) (held : Mapped) (plan : Planned) (changes : List Change) (before content : List (List ℕ))
    (loose : ℕ → Bool) : Type 0 where
  pub doubtful : (closed : Bool) → IsDoubtful (with_spare closed roots) held plan content loose
  pub image : pages_in content held ≡ pages_in before held
  pub words : changes_written content plan ≡ changes

pub after_doubt : (roots : Roots) (written : Written) (content after : List (List ℕ)) (loose now : ℕ → Bool) → IsWritten written
    → (sure : IsSure roots written.held content loose)
    → GateDecides written (root_of sure.base roots) (body_block (next_body roots.body written.held written.plan))
    (free_blocks sure.base roots) sure.base after now
    → AfterDoubt roots written.held written.plan (as_changes written.changes) content after now
after_doubt roots written content after loose now is sure next =
    let held = written.held in
    let plan = written.plan in
    let free = free_blocks sure.base roots in
    let maps = maps_held written free sure.base next.framed next.holds in
    let same = (map_stands sure.base content roots held sure.opens.map (stands_same roots.spare_closed
    (root_of sure.base roots) free sure.base content loose sure.stands).2).1 in
    record {
      doubtful = λ closed. doubt_next sure.base next.framed after roots closed held plan now sure.opens maps next.gate;
      image = (map_stands sure.base after roots held sure.opens.map next.gate.same).1 ∙ sym same;
      words = written_stand next.framed after plan next.gate.written ∙ changes_held written free sure.base next.framed is next.holds;
    }

-- the old root stands still: its pages are the same
pub after_fault : (roots : Roots) (held : Mapped) (content after : List (List ℕ)) (loose now : ℕ → Bool) (closed : Bool) (slot : _)
    → (sure : IsSure roots held content loose)
    → StandsBeside closed (record { slot = slot; body = body_at sure.base roots.slot }) (free_blocks sure.base roots) sure.base after now
    → pages_in after held ≡ pages_in content held
after_fault roots held content after loose now closed slot sure stands =
    let free = free_blocks sure.base roots in
    (map_stands sure.base after roots held sure.opens.map (stands_same closed
    (record { slot = slot; body = body_at sure.base roots.slot }) free sure.base after now stands).2).1
    ∙ sym (map_stands sure.base content roots held sure.opens.map (stands_same roots.spare_closed
    (root_of sure.base roots) free sure.base content loose sure.stands).2).1

-- each image of a commit is the old one with its version, or the new one with the next
pub either_written : (size : ℕ) (roots : Roots) (written : Written) (content image : List (List ℕ)) (loose : ℕ → Bool) (saved : Saved)
    → IsWritten written → Fits size roots → IsWhole roots written.held
    → roots.body.seq < last_version → (sure : IsSure roots written.held content loose)
    → IsOldOrWritten written (root_of sure.base roots) (body_block (next_body roots.body written.held written.plan))
    (free_blocks sure.base roots) sure.base image
    → IsLeftBy (opens image) saved
    → IsOldOrNewImage (pages_in content written.held) roots.body.seq (as_changes written.changes) (roots.body.seq + 1) saved
either_written size roots written content image loose saved is fits whole more sure either left =
    let held = written.held in
    let plan = written.plan in
    let free = free_blocks sure.base roots in
    let same = (map_stands sure.base content roots held sure.opens.map (stands_same roots.spare_closed
    (root_of sure.base roots) free sure.base content loose sure.stands).2).1 in
    let old : List (List ℕ) → Saved = λ pages. record { image = pages; version = roots.body.seq } in
    let new : List (List ℕ) → List Change
    → Saved = λ pages changes. record { image = with_changes pages changes; version = roots.body.seq + 1 } in
    ⊎_elim
    (λ to. inl (saved_is image (store_of sure.base roots held) saved (opens_old sure.base image roots held sure.opens to) left
    ∙ ap old (sym same)))
    (λ (to : OpensToWritten written free sure.base (next_root roots.slot (body_block (next_body roots.body held plan))) image).
    let maps = maps_held written free sure.base to.framed to.holds in
    let next = opens_to_next sure.base to.framed image roots held plan sure.opens fits.sizes fits.maps is.planned
    (next_is size roots held plan fits whole is.planned more) to.holds.agrees maps to.opens in
    inr (saved_is image _ saved (opens_next sure.base to.framed image roots held plan next) left
    ∙ ap (λ pages. new pages (changes_written to.framed plan)) (sym same)
    ∙ ap (new (pages_in content held)) (changes_held written free sure.base to.framed is to.holds)))
    either

-- what a commit writes, by the sizes of the store
pub written_is : (size : ℕ) (roots : Roots) (written : Written) → Fits size roots → IsWhole roots written.held
    → IsPlan written.held written.plan
    → map (λ (change : ℕ × List ℕ). change.0) written.changes ≡ moved written.plan.pages → IsWritten written
written_is size roots written fits whole planned pages =
    let most = fits.sizes.most_frames in
    let frames = whole.frames in
    record { planned = planned; pages = pages; blocks = whole.blocks; few = omega (arith, most, frames) }

-- the sizes of a store after a plan
pub fit_next : (size now : ℕ) (roots : Roots) (held after : Mapped) (plan : Planned) (doubt : Option Planned) (standing : Standing)
    (body : Body) → now ≡ size → Fits size roots → IsWhole roots held
    → IsPlan held plan → roots.body.seq < last_version → after ≡ with_plan plan held → body ≡ next_body roots.body held plan → doubt ≡ None
    → IsFit now (roots_of roots.header standing body) after doubt
fit_next size now roots held after plan doubt standing body same fits whole planned more moved is none =
    let new = roots_of roots.header standing (next_body roots.body held plan) in
    let next = next_is size roots held plan fits whole planned more in
    let wide = whole_after roots new held plan whole planned refl refl in
    let room = fits.room in
    let made : IsFit now new (with_plan plan held) doubt = record {
      fits = record {
        sizes = fits.sizes;
        room = omega
            (arith, room, same);
        some_seq = omega arith;
        most_seq = next.most_seq;
        maps = next.maps;
      };
      whole = wide;
      planned = λ other there. absurd (none-some other (sym none ∙ there));
      next = λ other there. absurd (none-some other (sym none ∙ there));
    } in
    subst (λ (map : Mapped). IsFit now (roots_of roots.header standing body) map doubt) (sym moved)
    (subst (λ (given : Body). IsFit now (roots_of roots.header standing given) (with_plan plan held) doubt) (sym is) made)

-- the sizes of a store whose root stays
pub fit_still : (size now : ℕ) (roots : Roots) (held : Mapped) (old doubt : Option Planned) (standing : Standing) → now ≡ size
    → IsFit size roots held old
    → ((plan : Planned) → doubt ≡ Some plan → IsPlan held plan × (roots.body.seq < last_version))
    → IsFit now (roots_of roots.header standing roots.body) held doubt
fit_still size now roots held old doubt standing same fit plans =
    let fits = fit.fits in
    let whole = fit.whole in
    let room = fits.room in
    record {
      fits = record {
        sizes = fits.sizes;
        room = omega
            (arith, room, same);
        some_seq = fits.some_seq;
        most_seq = fits.most_seq;
        maps = fits.maps;
      };
      whole = record { first_page = whole.first_page; pages = whole.pages; frames = whole.frames; blocks = whole.blocks; apart = whole.apart; below = whole.below };
      planned = λ plan there. (plans plan there).0;
      next = λ plan there. (plans plan there).1;
    }

-- without a doubt the store is sure
pub sure_of : (roots : Roots) (held : Mapped) (doubt : Option Planned) (content : List (List ℕ)) (loose : ℕ → Bool) → doubt ≡ None
    → IsOnDisk roots held doubt content loose → IsSure roots held content loose
sure_of roots held doubt content loose none is = subst (λ given. IsOnDisk roots held given content loose) none is

pub on_disk : (roots : Roots) (held : Mapped) (doubt : Option Planned) (content : List (List ℕ)) (loose : ℕ → Bool) → doubt ≡ None
    → IsSure roots held content loose → IsOnDisk roots held doubt content loose
on_disk roots held doubt content loose none is = subst (λ given. IsOnDisk roots held given content loose) (sym none) is

pub in_doubt : (roots : Roots) (held : Mapped) (plan : Planned) (doubt : Option Planned) (content : List (List ℕ)) (loose : ℕ → Bool)
    → doubt ≡ Some plan → IsDoubtful roots held plan content loose
    → IsOnDisk roots held doubt content loose
in_doubt roots held plan doubt content loose some is = subst (λ given. IsOnDisk roots held given content loose) (sym some) is

-- the number of the next body is greater
pub greater_of : (size : ℕ) (roots : Roots) (held : Mapped) (plan : Planned) (base : List (List ℕ)) → Fits size roots
    → IsWhole roots held → IsPlan held plan → roots.body.seq < last_version
    → OpensToMap base roots held → seq_of (body_at base roots.slot) < seq_of (body_block (next_body roots.body held plan))
greater_of size roots held plan base fits whole planned more opens =
    next_is_greater base (with_spare opens.spare roots) (next_body roots.body held plan) opens.opens
    (next_is size roots held plan fits whole planned more)

-- the store after a plan is on the disk
pub disk_next : (roots : Roots) (held after : Mapped) (plan : Planned) (doubt : Option Planned) (standing : Standing) (body : Body)
    (content : List (List ℕ)) (loose : ℕ → Bool)
    → standing ≡ record { slot = other_slot roots.slot; spare_closed = false } → after ≡ with_plan plan held
    → body ≡ next_body roots.body held plan → doubt ≡ None
    → IsSure (succeeded_by (next_body roots.body held plan) roots) (with_plan plan held) content loose
    → IsOnDisk (roots_of roots.header standing body) after doubt content loose
disk_next roots held after plan doubt standing body content loose moved mapped same none sure =
    on_disk (roots_of roots.header standing body) after doubt content loose none
    (subst (λ (given : Standing). IsSure (roots_of roots.header given body) after content loose) (sym moved)
    (subst (λ (given : Body). IsSure (roots_of roots.header
    (record { slot = other_slot roots.slot; spare_closed = false }) given) after content loose) (sym same)
    (subst (λ (map : Mapped). IsSure (succeeded_by (next_body roots.body held plan) roots) map content loose) (sym mapped) sure)))

-- and in doubt with another standing of the same slot
pub disk_doubt : (roots : Roots) (held : Mapped) (plan : Planned) (standing : Standing) (content : List (List ℕ)) (loose : ℕ → Bool)
    → standing.slot ≡ roots.slot
    → ((closed : Bool) → IsDoubtful (with_spare closed roots) held plan content loose)
    → IsDoubtful (roots_of roots.header standing roots.body) held plan content loose
disk_doubt roots held plan standing content loose same doubtful =
    subst (λ at. IsDoubtful
    (record { header = roots.header; slot = at; body = roots.body; spare_closed = standing.spare_closed }) held plan content loose)
    (sym same)
    (doubtful standing.spare_closed)

-- a plan is the one that it is
pub some_is : (one other : Planned) → Some one ≡ Some other → one ≡ other
some_is one other is = cc
