use Rattle.std.proofs.Common.{◌≡◌, ◌∙◌, ◌+◌, ◌-◌, ◌<◌, ◌≤◌, ℕ, List, ◌++◌, length, get_or, sym, ap, subst, ⊎_elim, arith}
use Rattle.std.proofs.lemmas.Bool.{cases_lt}
use Rattle.std.proofs.lemmas.List.{length-map, length-append, get_or-map, get_or-append_right}
use Rattle.std.proofs.Math.ListN.{get_or-append}
use Rattle.casper_map.specs.Planned.{frames_in}
use Rattle.casper_commit.specs.Pieces.{AreApart}
use Rattle.casper_map.proofs.MoveLemmas.{rising_other}
use Rattle.casper_map.proofs.FreeLemmas.{plans_take_free_frames}
use Rattle.casper_map.proofs.PlannedLemmas.{maps_below}
use Rattle.casper_stable.specs.Writing.{Written, IsWritten, piece_count, piece_frames, piece_place}

-- how many frames moves have
pub frames_long : (moves : List (ℕ × ℕ)) → length (frames_in moves) ≡ length moves
frames_long moves = length-map moves (λ (move : ℕ × ℕ). move.1)

-- as many as there are pieces
pub pieces_long : (written : Written) → length (piece_frames written) ≡ piece_count written
pieces_long written =
    length-append (frames_in written.plan.pages) (frames_in written.plan.maps)
    ∙ (let one = frames_long written.plan.pages in let other = frames_long written.plan.maps in omega (arith, one, other))

-- the frame of a page
pub page_frame : (pages maps : List (ℕ × ℕ)) (at : ℕ) → at < length pages
    → get_or (frames_in pages ++ frames_in maps) at 0 ≡ (get_or pages at (0, 0)).1
page_frame pages maps at early =
    get_or-append (frames_in pages) (frames_in maps) 0 at (omega (arith, early, frames_long pages))
    ∙ get_or-map (λ (move : ℕ × ℕ). move.1) pages at (0, 0) 0 early

-- the frame of a map block
pub map_frame : (pages maps : List (ℕ × ℕ)) (at : ℕ) → length pages ≤ at → at < length pages + length maps
    → get_or (frames_in pages ++ frames_in maps) at 0 ≡ (get_or maps (at - length pages) (0, 0)).1
map_frame pages maps at late early =
    get_or-append_right (frames_in pages) (frames_in maps) (length pages) at 0 (frames_long pages) late
    ∙ get_or-map (λ (move : ℕ × ℕ). move.1) maps (at - length pages) (0, 0) 0 (omega (arith, late, early))

-- each frame is in range
pub piece_within : (written : Written) (piece : ℕ) → IsWritten written → piece < piece_count written
    → get_or (piece_frames written) piece 0 < written.held.frames
piece_within written piece is early =
    (plans_take_free_frames written.held written.plan is.planned).in_range piece 0 (omega (arith, early, pieces_long written))

-- one that was found among lists with these frames
pub piece_read : (pages maps : List (ℕ × ℕ)) (written : Written) (piece : ℕ) → pages ≡ written.plan.pages → maps ≡ written.plan.maps
    → get_or (frames_in pages ++ frames_in maps) piece 0 ≡ get_or (piece_frames written) piece 0
piece_read pages maps written piece same also =
    ap (λ list. get_or (frames_in list ++ frames_in maps) piece 0) same
    ∙ ap (λ list. get_or (frames_in written.plan.pages ++ frames_in list) piece 0) also

-- its number is in range
pub number_within : (written : Written) (maps : List (ℕ × ℕ)) (at : ℕ) → IsWritten written → maps ≡ written.plan.maps
    → at < length maps → (get_or maps at (0, 0)).0 < written.held.first_page
number_within written maps at is same within =
    subst (λ (list : List (ℕ × ℕ)). (get_or {A = ℕ × ℕ} list at (0, 0)).0 < written.held.first_page) (sym same)
    (maps_below written.held written.plan is.blocks is.planned at (0, 0) (omega (arith, within, ap length same)))

-- there are as many changes as pages of the plan
pub changes_long : (written : Written) → IsWritten written → length written.changes ≡ length written.plan.pages
changes_long written is =
    sym (length-map written.changes (λ (change : ℕ × List ℕ). change.0)) ∙ ap length is.pages
    ∙ length-map written.plan.pages (λ (move : ℕ × ℕ). move.0)

-- no two go into one block
pub pieces_apart : (written : Written) → IsWritten written → AreApart piece_count piece_place written
pieces_apart written is one other early early_too same =
    let frames = piece_frames written in
    let rises = (plans_take_free_frames written.held written.plan is.planned).rising in
    let long = pieces_long written in
    ⊎_elim
    (λ (less : one < other). let apart = rising_other frames rises one other less (omega (arith, early_too, long)) in absurd (omega
    (arith, apart, same)))
    (λ (more : other ≤ one). ⊎_elim
    (λ (less : other < one). let apart = rising_other frames rises other one less (omega (arith, early, long)) in absurd (omega
    (arith, apart, same)))
    (λ (least : one ≤ other). omega (arith, more, least))
    (cases_lt other one))
    (cases_lt one other)

-- each stands in a block of the disk
pub place_within : (written : Written) (size piece : ℕ) → IsWritten written → 5 + written.held.frames ≤ size
    → piece < piece_count written → piece_place written piece < size
place_within written size piece is room early =
    let within = piece_within written piece is early in
    omega (arith, within, room)
