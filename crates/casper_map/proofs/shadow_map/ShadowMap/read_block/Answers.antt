use Rattle.std.proofs.Common.{◌≡◌, ◌+◌, ◌-◌, ◌*◌, ◌/◌, ◌<◌, ℕ, ◌++◌, length, take, refl, sym, ◌∙◌, ap, subst, arith}
use Rattle.std.specs.Prelude.{Some, None, min, MatchResult}
use Rattle.std.proofs.lemmas.List.{get_or_read, length-take}
use Rattle.casper_map.specs.Faulty.{frame_at}
use Rattle.casper_map.specs.Levels.{level, one_reader, block_in}
use Rattle.casper_map.specs.Mapped.{Mapped}
use Rattle.casper_map.specs.Numbers.{numbers_of_block}
use Rattle.casper_map.specs.Reading.{IsRead, StandAt, IsFirstBad, end_of_block}
use Rattle.casper_map.proofs.LevelLemmas.{map_at, block_stands, block_without, block_answer}
use Rattle.casper_map.proofs.ByteLemmas.{numbers_long}
use Rattle.casper_map.proofs.shadow_map.ShadowMap.read_block.Goals as goal

pub returns-in_default-clause-pages : goal.returns-in_default-clause-pages
returns-in_default-clause-pages g c told maps long read =
    let held = c.args.self.now in
    let inside = c.self.inside.places.items in
    let number = c.args.number in
    let blocks = g.D.Disk.content c.args.disk.now in
    let pages = length held.places - held.first_page in
    let within : number < length inside = omega (arith, c.requires.within, c.self.invariant.blocks, ap (λ (map : Mapped). map.first_page) c.self.view_is) in
    let none : frame_at held.places number ≡ None =
    sym (ap (λ (map : Mapped). frame_at map.places number) c.self.view_is) ∙ sym (get_or_read inside number c.index.result.now within c.index.ensures None) ∙ c.in_default.is in
    let there : frame_at maps number ≡ None =
    sym (map_at maps (take pages (level one_reader blocks maps)) held.first_page number long c.requires.within) ∙ sym (read.known number (omega (arith, c.requires.within))) ∙ none in
    block_without blocks maps held.first_page pages number held long c.requires.within refl there refl c.requires.unread read

pub overflow_add-frame : goal.overflow_add-frame
overflow_add-frame g c =
    let inside = c.self.inside.places.items in
    let within : c.args.number < length inside = omega (arith, c.requires.within, c.self.invariant.blocks, ap (λ (map : Mapped). map.first_page) c.self.view_is) in
    let there : frame_at inside c.args.number ≡ Some c.in-Some.frame = sym (get_or_read inside c.args.number c.index.result.now within c.index.ensures None) ∙ c.in-Some.is in
    let low = c.self.invariant.below c.args.number c.in-Some.frame there in
    omega (arith, low, c.self.invariant.most_frames)

pub read-requires : goal.read-requires
read-requires g c =
    let inside = c.self.inside.places.items in
    let within : c.args.number < length inside = omega (arith, c.requires.within, c.self.invariant.blocks, ap (λ (map : Mapped). map.first_page) c.self.view_is) in
    let there : frame_at inside c.args.number ≡ Some c.in-Some.frame = sym (get_or_read inside c.args.number c.index.result.now within c.index.ensures None) ∙ c.in-Some.is in
    let low = c.self.invariant.below c.args.number c.in-Some.frame there in
    omega (arith, low, c.requires.room, ap (λ (map : Mapped). map.frames) c.self.view_is)

pub returns-clause-pages : goal.returns-clause-pages
returns-clause-pages g c told maps long read =
    let held = c.args.self.now in
    let inside = c.self.inside.places.items in
    let number = c.args.number in
    let frame = c.in-Some.frame in
    let blocks = g.D.Disk.content c.args.disk.now in
    let first = held.first_page in
    let pages = length held.places - first in
    let all = maps ++ take pages (level one_reader blocks maps) in
    let within : number < length inside = omega (arith, c.requires.within, c.self.invariant.blocks, ap (λ (map : Mapped). map.first_page) c.self.view_is) in
    let named : frame_at held.places number ≡ Some frame =
    sym (ap (λ (map : Mapped). frame_at map.places number) c.self.view_is) ∙ sym (get_or_read inside number c.index.result.now within c.index.ensures None) ∙ c.in-Some.is in
    let there : frame_at maps number ≡ Some frame =
    sym (map_at maps (take pages (level one_reader blocks maps)) first number long c.requires.within) ∙ sym (read.known number (omega (arith, c.requires.within))) ∙ named in
    let count = c.min-count.result in
    let numbers : c.numbers_of-numbers.result ≡ numbers_of_block (block_in blocks frame) = c.numbers_of-numbers.ensures ∙ ap numbers_of_block (c.in_ok-read.ensures.block told) in
    let blocks_is : first ≡ (pages + 1023) / 1024 = c.requires.blocks in
    let some : 1024 * number < pages = omega (arith, blocks_is, c.requires.within) in
    let counted : count ≡ min 1024 (pages - 1024 * number) = c.min-count.ensures ∙ ap (λ (all_pages : ℕ). min 1024 (all_pages - 1024 * number)) c.pages.ensures.count in
    let start = c.blocks-first.ensures.count in
    let slice = take count c.numbers_of-numbers.result in
    let long_slice : length slice ≡ count = omega (arith, length-take {A = ℕ}, ap length numbers, numbers_long (block_in blocks frame), counted) in
    let stand : StandAt (first + 1024 * number) slice all =
    block_stands blocks maps first pages number frame count slice long c.requires.within there (ap (take count) numbers) (omega (arith, counted)) (omega (arith, counted, some)) in
    let answer = c.put_all.ensures.put all
    (subst (λ (f : ℕ). IsRead (f + 1024 * number) all held) (sym start) read) (subst (λ (f : ℕ). StandAt (f + 1024 * number) slice all) (sym start) stand) in
    let Q : ℕ → Type 0 = λ f. MatchResult c.put_all.result (λ _. IsRead (f + 1024 * number + length slice) all c.put_all.new.self) (IsFirstBad held.frames all (f + 1024 * number) (f + 1024 * number + length slice) (1024 * number) 1) in
    block_answer c.put_all.result held.frames all first number (first + 1024 * number + length slice) (end_of_block number held) c.put_all.new.self
    (omega (arith, long_slice, counted, some)) (subst Q start answer)

pub returns-clause-counted : goal.returns-clause-counted
returns-clause-counted g c disk = absurd (c.put_all.ensures.undisturbed disk)
