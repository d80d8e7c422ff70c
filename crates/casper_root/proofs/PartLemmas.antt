use Rattle.std.proofs.Common.{◌≡◌, ℕ, Bool, true, false, List, [], ◌∷◌, ◌++◌, length, refl, sym, ◌∙◌, ap, inl, inr}
use Rattle.std.specs.Prelude.{Result, Ok, Err}
use Rattle.casper_disk.specs.Disk.{block_at}
use Rattle.casper_root.specs.Format.{map_blocks_of}
use Rattle.casper_root.specs.Opening.{opened, count_refusals, header_refusals, room_refusals, root_refusals, pair_refusals, header_of, roots_found, current_in}
use Rattle.casper_root.specs.Parts.{opened_header, opened_pair, under, root_under, in_turn, OpenedInTurn}
use Rattle.casper_root.specs.Refusal.{first_refusal, Answers}
use Rattle.casper_root.specs.declared.current_root.CurrentRoot.{CurrentRoot}
use Rattle.casper_root.specs.declared.fault.OpenFault.{OpenFault}
use Rattle.casper_root.specs.declared.found.Found.{Found}
use Rattle.casper_root.specs.declared.header.Header.{Header}
use Rattle.casper_root.specs.declared.roots.Roots.{Roots}

-- what refuses a root refuses it under a header
under_alike : (refusals : List (Bool × OpenFault)) (header : Header) (root : CurrentRoot)
    → first_refusal refusals (under header root) ≡ root_under header (first_refusal refusals root)
under_alike [] header root = refl
under_alike ((true, refusal) ∷ refusals) header root = refl
under_alike ((false, refusal) ∷ refusals) header root = under_alike refusals header root

-- refusals of a header and then of a root
both_in_turn : (first others : List (Bool × OpenFault)) (header : Header) (root : CurrentRoot) (next : Header → Result CurrentRoot OpenFault)
    → next header ≡ first_refusal others root → first_refusal (first ++ others) (under header root) ≡ in_turn (first_refusal first header) next
both_in_turn [] others header root next same = under_alike others header root ∙ ap (root_under header) (sym same)
both_in_turn ((true, refusal) ∷ first) others header root next same = refl
both_in_turn ((false, refusal) ∷ first) others header root next same = both_in_turn first others header root next same

pub opened_in_turn : OpenedInTurn
unfolding opened opened_header opened_pair
opened_in_turn blocks =
    let header = header_of (block_at blocks 0) in
    both_in_turn (count_refusals (length blocks) ++ header_refusals (block_at blocks 0) ++ room_refusals (length blocks) header)
    (root_refusals header (roots_found blocks)) header (current_in (roots_found blocks)) (λ given. opened_pair (map_blocks_of given.pages) blocks) refl

-- an answer that is Ok is the one that was expected
pub expected_ok : {T : Type 0} (answer expected : Result T OpenFault) (given : T) → answer ≡ Ok given → Answers answer expected → expected ≡ Ok given
expected_ok answer expected given is (inl same) = sym same ∙ is
expected_ok answer expected given is (inr (inl disk)) = cc
expected_ok answer expected given is (inr (inr memory)) = cc

-- a fault is the refusal that was expected, or one of the disk or of memory
pub handed_over : {S T : Type 0} (answer expected : Result S OpenFault) (result whole : Result T OpenFault) (why : OpenFault) → answer ≡ Err why → result ≡ Err why
    → (expected ≡ Err why → whole ≡ Err why) → Answers answer expected → Answers result whole
handed_over answer expected result whole why is handed refused (inl same) = inl (handed ∙ sym (refused (sym same ∙ is)))
handed_over answer expected result whole why is handed refused (inr (inl disk)) = inr (inl (handed ∙ ap Err (why_is (sym is ∙ disk))))
  where
    why_is : {S : Type 0} {one other : OpenFault} → ◌≡◌ {A = Result S OpenFault} (Err one) (Err other) → one ≡ other
    why_is same = cc
handed_over answer expected result whole why is handed refused (inr (inr memory)) = inr (inr (handed ∙ ap Err (why_is (sym is ∙ memory))))
  where
    why_is : {S : Type 0} {one other : OpenFault} → ◌≡◌ {A = Result S OpenFault} (Err one) (Err other) → one ≡ other
    why_is same = cc

-- a header that is refused
pub header_refused : (blocks : List (List ℕ)) (answer : Result Header OpenFault) (result : Result Roots OpenFault) (why : OpenFault) → answer ≡ Err why → result ≡ Err why
    → Answers answer (opened_header blocks) → Answers result (opened blocks)
header_refused blocks answer result why is handed answers =
    handed_over answer (opened_header blocks) result (opened blocks) why is handed
    (λ refused. opened_in_turn blocks ∙ ap (λ header. in_turn header (λ given. opened_pair (map_blocks_of given.pages) blocks)) refused) answers

-- with a header, what the blocks open to is their root under it
pub root_decides : (blocks : List (List ℕ)) (answer : Result Header OpenFault) (header : Header) → answer ≡ Ok header → Answers answer (opened_header blocks)
    → opened blocks ≡ root_under header (opened_pair (map_blocks_of header.pages) blocks)
root_decides blocks answer header is answers =
    opened_in_turn blocks ∙ ap (λ found. in_turn found (λ given. opened_pair (map_blocks_of given.pages) blocks)) (expected_ok answer (opened_header blocks) header is answers)

-- the root of the blocks, read after their header, as many map blocks as it says
same_pair : (blocks later : List (List ℕ)) (header : Header) (maps : ℕ) → later ≡ blocks → maps ≡ map_blocks_of header.pages
    → opened_pair maps later ≡ opened_pair (map_blocks_of header.pages) blocks
same_pair blocks later header maps same count = ap (opened_pair maps) same ∙ ap (λ (number : ℕ). opened_pair number blocks) count

-- a root that is refused
pub root_refused : (blocks later : List (List ℕ)) (answer : Result Header OpenFault) (header : Header) (maps : ℕ) (root : Result CurrentRoot OpenFault) (result : Result Roots OpenFault) (why : OpenFault)
    → answer ≡ Ok header → Answers answer (opened_header blocks) → later ≡ blocks → maps ≡ map_blocks_of header.pages → root ≡ Err why → result ≡ Err why
    → Answers root (opened_pair maps later) → Answers result (opened blocks)
root_refused blocks later answer header maps root result why is answers same count none handed =
    handed_over root (opened_pair maps later) result (opened blocks) why none handed
    (λ refused. root_decides blocks answer header is answers ∙ ap (root_under header) (sym (same_pair blocks later header maps same count) ∙ refused))

-- one that is found
pub root_found : (blocks later : List (List ℕ)) (answer : Result Header OpenFault) (header : Header) (maps : ℕ) (root : Result CurrentRoot OpenFault) (given : CurrentRoot)
    → answer ≡ Ok header → Answers answer (opened_header blocks) → later ≡ blocks → maps ≡ map_blocks_of header.pages → root ≡ Ok given
    → Answers root (opened_pair maps later) → opened blocks ≡ Ok (under header given)
root_found blocks later answer header maps root given is answers same count found there =
    root_decides blocks answer header is answers
    ∙ ap (root_under header) (sym (same_pair blocks later header maps same count) ∙ expected_ok root (opened_pair maps later) given found there)

-- what was found in the blocks of the roots decides
pub pair_decides : (blocks : List (List ℕ)) (found : Found) (maps : ℕ) (answer : Result CurrentRoot OpenFault) → found ≡ roots_found blocks
    → answer ≡ first_refusal (pair_refusals maps found) (current_in found) → answer ≡ opened_pair maps blocks
unfolding opened_pair
pair_decides blocks found maps answer read decided = decided ∙ ap (λ (both : Found). first_refusal (pair_refusals maps both) (current_in both)) read
