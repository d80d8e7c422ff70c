use Rattle.std.proofs.Common.{◌≡◌, ◌+◌, ◌-◌, ◌*◌, ◌<◌, ◌≤◌, ◌^◌, ℕ, zero, suc, Bool, List, [], ◌∷◌, ◌++◌, length, take, map, replicate, refl, sym, ◌∙◌, ap, subst, arith}
use Rattle.std.specs.Prelude.{Option, None, Ok, option_map, slice_index}
use Rattle.std.proofs.lemmas.List.{length-replicate, replicate-append-replicate, take-replicate, drop-replicate}
use Rattle.std.proofs.lemmas.Option.{none-some}
use Rattle.casper_disk.specs.Disk.{AgreesBut, block_at, none_loose}
use Rattle.casper_disk.proofs.VaultLemmas.{map_replicate}
use Rattle.casper_root.specs.Fitting.{AreSizes, Fits}
use Rattle.casper_root.specs.Format.{open_gate_block, map_blocks_of}
use Rattle.casper_root.specs.declared.header.Header.{Header}
use Rattle.casper_root.specs.declared.roots.Roots.{Roots}
use Rattle.casper_root.proofs.WrittenLemmas.{opened_as_written}
use Rattle.casper_map.specs.Faulty.{frame_at, first_faulty, bad_map, pages_under, refused}
use Rattle.casper_map.specs.Levels.{level, joined, one_reader, page_in}
use Rattle.casper_map.specs.Mapped.{Mapped, AreApart, AreBelow}
use Rattle.casper_map.specs.Numbers.{frame_in, no_frame}
use Rattle.casper_map.specs.PlanLaws.{IsWhole}
use Rattle.casper_map.specs.Reading.{opened_map, mapped_in, levels_of, root_places}
use Rattle.casper_map.proofs.FineLemmas.{none_is_faulty}
use Rattle.casper_stable.specs.Formatted.{new_roots, new_map, new_store, IsPrepared}
use Rattle.casper_stable.specs.Opened.{OpenTo}
use Rattle.casper_stable.specs.Opens.{Store, opens, store_of, pages_in}
use Rattle.casper_stable.proofs.OpeningLemmas.{sure_opened}
use Rattle.casper_stable.specs.SoundLemmas.{sure_image}

-- a new store has its map blocks
blocks_enough : (header : Header) → header.pages ≤ 1024 * map_blocks_of header.pages
blocks_enough header = omega arith

-- places without a frame
nothing_at : (count at : ℕ) → frame_at (replicate count None) at ≡ None
nothing_at zero at = refl
nothing_at (suc count) zero = refl
nothing_at (suc count) (suc at) = nothing_at count at

nothing_apart : (count : ℕ) → AreApart (replicate count None)
nothing_apart count one other frame there here = absurd (none-some frame (sym (nothing_at count one) ∙ there))

nothing_below : (frames count : ℕ) → AreBelow frames (replicate count None)
nothing_below frames count at frame there = absurd (none-some frame (sym (nothing_at count at) ∙ there))

-- map blocks without a frame name nothing
level_of_none : (blocks : List (List ℕ)) (count : ℕ) → level one_reader blocks (replicate count None) ≡ replicate (1024 * count) None
level_of_none blocks zero = refl
level_of_none blocks (suc count) =
    let more : 1024 + 1024 * count ≡ 1024 * suc count = omega arith in
    ap (λ (rest : List (Option ℕ)). replicate 1024 None ++ rest) (level_of_none blocks count)
    ∙ replicate-append-replicate {A = Option ℕ} 1024 (1024 * count) None
    ∙ ap (λ (n : ℕ). replicate n None) more

-- the map blocks and the pages of a new root have no frame
new_places : (header : Header) → root_places (new_roots header) ≡ replicate (map_blocks_of header.pages) None
new_places header = map_replicate frame_in (map_blocks_of header.pages) no_frame

new_levels : (blocks : List (List ℕ)) (header : Header)
    → joined (levels_of blocks (new_roots header)) ≡ replicate (map_blocks_of header.pages + header.pages) None
new_levels blocks header =
    let count = map_blocks_of header.pages in
    let whole : List (Option ℕ) → List (Option ℕ) = λ places. places ++ take header.pages (level one_reader blocks places) in
    ap whole (new_places header)
    ∙ ap (λ (rest : List (Option ℕ)). replicate count None ++ rest)
    (ap (take header.pages) (level_of_none blocks count)
    ∙ take-replicate {X = Option ℕ} header.pages (1024 * count) None (blocks_enough header))
    ∙ replicate-append-replicate {A = Option ℕ} count header.pages None

-- whatever the blocks are, those of a new root open to the map in which nothing has a frame
pub map_opened : (blocks : List (List ℕ)) (header : Header) → opened_map blocks (new_roots header) ≡ Ok (new_map header)
map_opened blocks header =
    let roots = new_roots header in
    let count = map_blocks_of header.pages in
    let all = joined (levels_of blocks roots) in
    let places = new_levels blocks header in
    let none : first_faulty header.frames all ≡ None =
    subst (λ (list : List (Option ℕ)). first_faulty header.frames list ≡ None) (sym places)
    ((none_is_faulty header.frames (replicate (count + header.pages) None)).1 (
      nothing_apart
          (count + header.pages),
      nothing_below header.frames (count + header.pages),
    )) in
    let made : ℕ → List (Option ℕ) → Mapped = λ first list. record { first_page = first; places = list; frames = header.frames } in
    ap (λ (place : Option ℕ). refused (option_map (bad_map (pages_under (1024 ∷ 1 ∷ []) (levels_of blocks roots)) all) place)
    (mapped_in blocks roots)) none
    ∙ ap (λ (held : Mapped). Ok held)
    (ap (λ (first : ℕ). made first all) (length-replicate {A = ℕ} count no_frame) ∙ ap (made count) places)

-- its pages are zero pages
pub pages_new : (blocks : List (List ℕ)) (header : Header) → pages_in blocks (new_map header) ≡ replicate header.pages (replicate 512 0)
pages_new blocks header =
    let count = map_blocks_of header.pages in
    let left : count + header.pages - count ≡ header.pages = omega arith in
    ap (map (page_in one_reader blocks)) (drop-replicate {X = Option ℕ} count (count + header.pages) None
    ∙ ap (λ (n : ℕ). replicate n None) left)
    ∙ map_replicate (page_in one_reader blocks) header.pages None

pub store_new : (blocks : List (List ℕ)) (header : Header) → store_of blocks (new_roots header) (new_map header) ≡ new_store header
store_new blocks header =
    let made : List (List ℕ)
    → Store = λ pages. record { header = header; saved = record { image = pages; version = 1 }; held = new_map header } in
    ap made (pages_new blocks header)

-- the sizes of a new store
pub new_fits : (size : ℕ) (header : Header) → AreSizes header → 5 + header.frames ≤ size → Fits size (new_roots header)
new_fits size header are room = record {
  sizes = are;
  room = room;
  some_seq = omega arith;
  most_seq = omega arith;
  maps = length-replicate {A = ℕ} (map_blocks_of header.pages) no_frame;
}

pub new_whole : (header : Header) → IsWhole (new_roots header) (new_map header)
new_whole header =
    let count = map_blocks_of header.pages in
    let long = length-replicate {A = Option ℕ} (count + header.pages) None in
    record {
      first_page = sym (length-replicate {A = ℕ} count no_frame);
      pages = omega (arith, long);
      frames = refl;
      blocks = record { blocks = omega (arith, long); mapped = omega (arith, long, blocks_enough header) };
      apart = nothing_apart (count + header.pages);
      below = nothing_below header.frames (count + header.pages);
    }

-- numbers of a new body fit
number_fits : (count k : ℕ) → slice_index (replicate count no_frame) k < 2 ^ 32
number_fits zero k = omega arith
number_fits (suc count) zero = omega arith
number_fits (suc count) (suc k) = number_fits count k

-- blocks with a new store open to it
pub new_opened : (blocks : List (List ℕ)) (header : Header) → AreSizes header → 5 + header.frames ≤ length blocks → IsPrepared header blocks
    → block_at blocks 2 ≡ open_gate_block → OpenTo blocks (new_roots header) (new_map header)
new_opened blocks header are room prepared gate = record {
  opens = opened_as_written blocks (new_roots header) (record {
    fits = new_fits (length blocks) header are room;
    numbers = number_fits (map_blocks_of header.pages);
    header = prepared.has_header;
    body = prepared.has_body;
    gate = gate;
    spare_gate = prepared.closed;
    spare_closed = refl;
  });
  map = map_opened blocks header;
}

-- each image of a disk of which nothing is loose opens to the new store
pub image_new : (content image : List (List ℕ)) (header : Header) (loose : ℕ → Bool)
    → OpenTo content (new_roots header) (new_map header) → loose ≡ none_loose
    → AgreesBut loose content image → opens image ≡ Ok (new_store header)
image_new content image header loose is none agrees =
    sure_image (new_roots header) (new_map header) content image loose (sure_opened content (new_roots header)
    (new_map header) loose is none) agrees
    ∙ ap (λ (store : Store). Ok store) (store_new content header)

-- what shows these is the new store
pub shown_new : (blocks : List (List ℕ)) (roots : Roots) (held : Mapped) (header : Header) → roots ≡ new_roots header
    → held ≡ new_map header
    → store_of blocks roots held ≡ new_store header
shown_new blocks roots held header root map =
    ap (λ (given : Roots). store_of blocks given held) root ∙ ap (λ (given : Mapped). store_of blocks (new_roots header) given) map
    ∙ store_new blocks header

-- blocks that open to these open to the new store
pub open_new : (blocks : List (List ℕ)) (roots : Roots) (held : Mapped) (header : Header) → OpenTo blocks roots held
    → roots ≡ new_roots header → held ≡ new_map header
    → OpenTo blocks (new_roots header) (new_map header)
open_new blocks roots held header is root map =
    subst (λ (given : Mapped). OpenTo blocks (new_roots header) given) map (subst (λ (given : Roots). OpenTo blocks given held) root is)
