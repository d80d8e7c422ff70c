use Rattle.std.proofs.Common.{◌≡◌, ℕ, ◌+◌, ◌<◌, ◌≤◌, List, ◌++◌, length, ◌∙◌, ap, sym, Bool}
use Rattle.std.specs.Prelude.{Result, Ok, Err, IsErrAnd, nat_lt}
use Rattle.std.proofs.lemmas.Bool.{lt-ltb, le-ltb}
use Rattle.casper_disk.specs.Disk.{block_at}
use Rattle.casper_root.specs.declared.fault.OpenFault.{OpenFault}
use Rattle.casper_root.specs.declared.fault.OpenFault.TheVariants as fault
use Rattle.casper_root.specs.declared.header.Header.{Header}
use Rattle.casper_root.specs.declared.roots.Roots.{Roots}
use Rattle.casper_root.specs.Opening.{opened, count_refusals, header_refusals, header_of, room_refusals, root_refusals, roots_found, current_root}
use Rattle.casper_root.specs.Parts.{opened_header}
use Rattle.casper_root.specs.Refusal.{first_refusal}
use Rattle.casper_root.proofs.RefusalLemmas.{refused_first, passed_first, refused_once, passed_once, refused_alike, passed_alike}

-- three lists of refusals, of which the first refuses
refused_in_first : {T : Type 0} (a b c : List (Bool × OpenFault)) (last : T) (why : OpenFault) → first_refusal {T = ℕ} a 0 ≡ Err why → first_refusal (a ++ b ++ c) last ≡ Err why
refused_in_first a b c last why refused = refused_first (a ++ b) c last last why (refused_first a b 0 last why refused)

-- the second
refused_in_second : {T : Type 0} (a b c : List (Bool × OpenFault)) (last : T) (why : OpenFault) → first_refusal {T = ℕ} a 0 ≡ Ok 0 → first_refusal b last ≡ Err why → first_refusal (a ++ b ++ c) last ≡ Err why
refused_in_second a b c last why passed refused = refused_first (a ++ b) c last last why (passed_first a b 0 0 last passed ∙ refused)

-- none but perhaps the third
decided_by_third : {T : Type 0} (a b c : List (Bool × OpenFault)) (given last : T) → first_refusal {T = ℕ} a 0 ≡ Ok 0 → first_refusal b last ≡ Ok given → first_refusal (a ++ b ++ c) last ≡ first_refusal c last
decided_by_third a b c given last passed passed_too = passed_first (a ++ b) c last given last (passed_first a b 0 0 last passed ∙ passed_too)

-- none but perhaps the last
decided_by_fourth : (a b c d : List (Bool × OpenFault)) (header given : Header) (last : Roots) → first_refusal {T = ℕ} a 0 ≡ Ok 0 → first_refusal b header ≡ Ok given → first_refusal {T = ℕ} c 0 ≡ Ok 0 → first_refusal (a ++ b ++ c ++ d) last ≡ first_refusal d last
decided_by_fourth a b c d header given last passed passed_too passed_three =
    let both : first_refusal (a ++ b) last ≡ Ok last = passed_first a b 0 0 last passed ∙ passed_alike b header given last passed_too in
    let three : first_refusal (a ++ b ++ c) last ≡ Ok last = passed_first (a ++ b) c last last last both ∙ passed_alike c 0 0 last passed_three in
    passed_first (a ++ b ++ c) d last last last three

-- too few blocks for the fixed ones
pub refused_short : (blocks : List (List ℕ)) → length blocks < 5 → opened_header blocks ≡ Err (fault.Short 5 (length blocks))
unfolding opened_header
refused_short blocks short =
    refused_in_first (count_refusals (length blocks)) (header_refusals (block_at blocks 0)) (room_refusals (length blocks) (header_of (block_at blocks 0)))
    (header_of (block_at blocks 0)) (fault.Short 5 (length blocks)) (refused_once (nat_lt (length blocks) 5) (fault.Short 5 (length blocks)) (lt-ltb (length blocks) 5 short))

-- what a header gives is what stands in it
header_given : (block : List ℕ) (header : Header) → first_refusal (header_refusals block) (header_of block) ≡ Ok header → header ≡ header_of block
header_given block header passed = let same = passed_alike (header_refusals block) (header_of block) header (header_of block) passed in cc

-- a header that is refused
pub refused_header : (blocks : List (List ℕ)) (block : List ℕ) (answer : Result Header OpenFault) (why : OpenFault) → 5 ≤ length blocks → block ≡ block_at blocks 0
    → answer ≡ first_refusal (header_refusals block) (header_of block) → answer ≡ Err why → Err why ≡ opened_header blocks
unfolding opened_header
refused_header blocks block answer why enough same judged refused =
    sym (refused_in_second (count_refusals (length blocks)) (header_refusals (block_at blocks 0)) (room_refusals (length blocks) (header_of (block_at blocks 0)))
    (header_of (block_at blocks 0)) why (passed_once (nat_lt (length blocks) 5) (fault.Short 5 (length blocks)) (le-ltb (length blocks) 5 enough))
    (ap (λ bytes. first_refusal (header_refusals bytes) (header_of bytes)) (sym same) ∙ sym judged ∙ refused))

-- with a header the number of blocks decides
room_decides : (blocks : List (List ℕ)) (block : List ℕ) (answer : Result Header OpenFault) (header : Header) → 5 ≤ length blocks → block ≡ block_at blocks 0
    → answer ≡ first_refusal (header_refusals block) (header_of block) → answer ≡ Ok header
    → (opened_header blocks ≡ first_refusal (room_refusals (length blocks) header) header)
unfolding opened_header
room_decides blocks block answer header enough same judged passed =
    let known : first_refusal (header_refusals (block_at blocks 0)) (header_of (block_at blocks 0)) ≡ Ok header =
    ap (λ bytes. first_refusal (header_refusals bytes) (header_of bytes)) (sym same) ∙ sym judged ∙ passed in
    decided_by_third (count_refusals (length blocks)) (header_refusals (block_at blocks 0)) (room_refusals (length blocks) (header_of (block_at blocks 0)))
    header (header_of (block_at blocks 0)) (passed_once (nat_lt (length blocks) 5) (fault.Short 5 (length blocks)) (le-ltb (length blocks) 5 enough)) known
    ∙ ap (λ (given : Header). first_refusal (room_refusals (length blocks) given) given) (sym (header_given (block_at blocks 0) header known))

-- a disk that has too few blocks for the frames
pub refused_room : (blocks : List (List ℕ)) (block : List ℕ) (answer : Result Header OpenFault) (header : Header) → 5 ≤ length blocks → block ≡ block_at blocks 0
    → answer ≡ first_refusal (header_refusals block) (header_of block) → answer ≡ Ok header → length blocks < 5 + header.frames
    → Err (fault.Short (5 + header.frames) (length blocks)) ≡ opened_header blocks
refused_room blocks block answer header enough same judged passed short =
    let need : ℕ = 5 + header.frames in
    sym (room_decides blocks block answer header enough same judged passed
    ∙ refused_alike (room_refusals (length blocks) header) 0 header (fault.Short need (length blocks)) (refused_once (nat_lt (length blocks) need) (fault.Short need (length blocks)) (lt-ltb (length blocks) need short)))

-- one that has enough
pub has_room : (blocks : List (List ℕ)) (block : List ℕ) (answer : Result Header OpenFault) (header : Header) → 5 ≤ length blocks → block ≡ block_at blocks 0
    → answer ≡ first_refusal (header_refusals block) (header_of block) → answer ≡ Ok header → 5 + header.frames ≤ length blocks → Ok header ≡ opened_header blocks
has_room blocks block answer header enough same judged passed room =
    let need : ℕ = 5 + header.frames in
    sym (room_decides blocks block answer header enough same judged passed
    ∙ passed_alike (room_refusals (length blocks) header) 0 0 header (passed_once (nat_lt (length blocks) need) (fault.Short need (length blocks)) (le-ltb (length blocks) need room)))

-- with a header and room enough the roots decide
pub opened_root : (blocks : List (List ℕ)) (header : Header) → 5 ≤ (length blocks) → first_refusal (header_refusals (block_at blocks 0)) (header_of (block_at blocks 0)) ≡ Ok header
    → 5 + (header_of (block_at blocks 0)).frames ≤ (length blocks)
    → opened blocks ≡ first_refusal (root_refusals (header_of (block_at blocks 0)) (roots_found blocks)) (current_root (header_of (block_at blocks 0)) (roots_found blocks))
unfolding opened
opened_root blocks header enough passed room =
    let need : ℕ = 5 + (header_of (block_at blocks 0)).frames in
    decided_by_fourth (count_refusals (length blocks)) (header_refusals (block_at blocks 0)) (room_refusals (length blocks) (header_of (block_at blocks 0))) (root_refusals (header_of (block_at blocks 0)) (roots_found blocks)) (header_of (block_at blocks 0)) header (current_root (header_of (block_at blocks 0)) (roots_found blocks))
    (passed_once (nat_lt (length blocks) 5) (fault.Short 5 (length blocks)) (le-ltb (length blocks) 5 enough)) passed (passed_once (nat_lt (length blocks) need) (fault.Short need (length blocks)) (le-ltb (length blocks) need room))

-- an error that `?` handed on
pub handed_on : {T : Type 0} (result : Result T OpenFault) (why : OpenFault) → IsErrAnd result (λ given. given ≡ why) → result ≡ Err why
handed_on (Ok roots) why held = absurd held
handed_on (Err given) why held = ap Err held
