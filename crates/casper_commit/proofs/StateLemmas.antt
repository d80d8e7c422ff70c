use Rattle.std.proofs.Common.{◌≡◌, ◌||◌, ◌==◌, ℕ, Bool, true, false, List, refl, sym, ◌∙◌, ap, subst, inl, inr, arith}
use Rattle.std.specs.Prelude.{Option, Some, None, not, slice_index, option_map}
use Rattle.std.proofs.lemmas.Option.{none-some}
use Rattle.std.proofs.lemmas.Bool.{or_parts, or_from, eq-eqb}
use Rattle.std.proofs.lemmas.Bool.Decides.{eqb_tells}
use Rattle.casper_disk.specs.Disk.{AgreesBut, block_at, none_loose, with_loose, IsLooseWithin}
use Rattle.casper_disk.specs.Record.{agrees_itself}
use Rattle.casper_disk.proofs.RecordLemmas.{agrees_less}
use Rattle.casper_root.specs.Choice.{is_open}
use Rattle.casper_root.specs.Slots.{body_place, gate_place, other_slot}
use Rattle.casper_root.specs.Spare.{IsBehind}
use Rattle.casper_root.specs.declared.slot.Slot.{Slot}
use Rattle.casper_root.specs.declared.slot.Slot.TheVariants as slot
use Rattle.casper_root.proofs.ChoiceLemmas.{behind_of_less}
use Rattle.casper_commit.specs.declared.standing.Standing.{Standing}
use Rattle.casper_commit.specs.Root.{Root, has_open_gate, body_at, seq_of, slot_in, root_in}
use Rattle.casper_commit.specs.States.{is_of_roots, besides, none_free, AreFrames, LooseAt, OpensTo, HasRoot, IsAhead, IsAlone, StandsBeside, next_root, IsReady, IsAtGate, IsOldOrNew}
use Rattle.casper_commit.specs.StateLaws.{StandingOpens, GateDecides, GateTells, FoundStands, StandingFound, StandingRebased, StandingWider, GateRebased}
use Rattle.casper_commit.proofs.RootLemmas.{slot_alone, slot_before, slot_is_open, other_is_behind, root_of_slot, root_says}

-- what agrees with what agrees does so itself
pub agrees_on : (may_differ : ℕ → Bool) (base blocks image : List (List ℕ)) → AgreesBut may_differ base blocks → AgreesBut may_differ blocks image → AgreesBut may_differ base image
agrees_on may_differ base blocks image first second = record { count = second.count ∙ first.count; same = λ at fixed. second.same at fixed ∙ first.same at fixed }

-- a place of some is none that is not
pub apart : (some : ℕ → Bool) (at other : ℕ) → some at ≡ true → some other ≡ false → (other == at) ≡ false
apart some at other is out = elim (eqb_tells other at) [
  | inl both ↦ let same : some other ≡ some at = ap some both.1 in cc
  | inr differ ↦ differ.0
]

-- a write at one of some places changes those alone
pub wrote_within : (some : ℕ → Bool) (at : ℕ) (content after : List (List ℕ)) → some at ≡ true → AgreesBut (λ other. other == at) content after → AgreesBut some content after
wrote_within some at content after is agrees = agrees_less some (λ other. other == at) content after (λ other out. apart some at other is out) agrees

-- where some are loose, still some are after a write of one of them
loose_within : (some loose : ℕ → Bool) (at : ℕ) → some at ≡ true → IsLooseWithin some loose → IsLooseWithin some (with_loose at loose)
loose_within some loose at is settled = λ other out. or_from (other == at) (loose other) (apart some at other is out) (settled other out)

-- a place is loose beside others
pub itself_loose : (place at : ℕ) (free : ℕ → Bool) → at ≡ place → with_loose place free at ≡ true
itself_loose place at free is = ap (λ test. test || free at) (eq-eqb at place is)

or_true : (b : Bool) → (b || true) ≡ true
or_true true = refl
or_true false = refl

-- and so is a free one
pub free_loose : (place at : ℕ) (free : ℕ → Bool) → free at ≡ true → with_loose place free at ≡ true
free_loose place at free is = ap (λ test. (at == place) || test) is ∙ or_true (at == place)

-- the block of the spare root that may be loose beside a root: its body under a closed gate, else its gate
abbrev pub loose_place : Bool → Slot → ℕ
loose_place true at = body_place (other_slot at)
loose_place false at = gate_place (other_slot at)

of_roots : (closed : Bool) (at : Slot) → is_of_roots (loose_place closed at) ≡ true
of_roots true slot.A = refl
of_roots true slot.B = refl
of_roots false slot.A = refl
of_roots false slot.B = refl

-- the blocks of a root are not loose
own_gate : (closed : Bool) (at : Slot) (free : ℕ → Bool) → AreFrames free → with_loose (loose_place closed at) free (gate_place at) ≡ false
own_gate true slot.A free frames = frames 2 (omega arith)
own_gate true slot.B free frames = frames 4 (omega arith)
own_gate false slot.A free frames = frames 2 (omega arith)
own_gate false slot.B free frames = frames 4 (omega arith)

own_body : (closed : Bool) (at : Slot) (free : ℕ → Bool) → AreFrames free → with_loose (loose_place closed at) free (body_place at) ≡ false
own_body true slot.A free frames = frames 1 (omega arith)
own_body true slot.B free frames = frames 3 (omega arith)
own_body false slot.A free frames = frames 1 (omega arith)
own_body false slot.B free frames = frames 3 (omega arith)

-- nor is the other block of the spare one
spare_gate : (at : Slot) (free : ℕ → Bool) → AreFrames free → with_loose (loose_place true at) free (gate_place (other_slot at)) ≡ false
spare_gate slot.A free frames = frames 4 (omega arith)
spare_gate slot.B free frames = frames 2 (omega arith)

spare_body : (at : Slot) (free : ℕ → Bool) → AreFrames free → with_loose (loose_place false at) free (body_place (other_slot at)) ≡ false
spare_body slot.A free frames = frames 3 (omega arith)
spare_body slot.B free frames = frames 1 (omega arith)

-- a block of a root and the free ones are among those of the roots and the free ones
loose_besides : (place : ℕ) (free : ℕ → Bool) → is_of_roots place ≡ true → IsLooseWithin (besides free) (with_loose place free)
loose_besides place free of other out =
    let parts = or_parts (is_of_roots other) (free other) out in
    or_from (other == place) (free other) (apart is_of_roots place other of parts.0) parts.1

same_on : (closed : Bool) (at : Slot) (free : ℕ → Bool) (base content image : List (List ℕ)) → AgreesBut (besides free) base content
    → AgreesBut (with_loose (loose_place closed at) free) content image → AgreesBut (besides free) base image
same_on closed at free base content image same agrees =
    agrees_on (besides free) base content image same
    (agrees_less (besides free) (with_loose (loose_place closed at) free) content image (loose_besides (loose_place closed at) free (of_roots closed at)) agrees)

root_on : (closed : Bool) (root : Root) (free : ℕ → Bool) (content image : List (List ℕ)) → AreFrames free → HasRoot root content
    → AgreesBut (with_loose (loose_place closed root.slot) free) content image → HasRoot root image
root_on closed root free content image frames has agrees = record {
  gate = ap (λ (block : List ℕ). is_open (slice_index block 0)) (agrees.same (gate_place root.slot) (own_gate closed root.slot free frames)) ∙ has.gate;
  body = agrees.same (body_place root.slot) (own_body closed root.slot free frames) ∙ has.body;
}

-- over any bytes in what may be loose the root stands still
pub stands_on : (closed : Bool) (root : Root) (free : ℕ → Bool) (base content image : List (List ℕ)) (loose now : ℕ → Bool) → StandsBeside closed root free base content loose
    → AgreesBut (with_loose (loose_place closed root.slot) free) content image → LooseAt (loose_place closed root.slot) free now → StandsBeside closed root free base image now
stands_on true root free base content image loose now is agrees settled = record {
  frames = is.frames;
  has = root_on true root free content image is.frames is.has agrees;
  closed = ap (λ (block : List ℕ). is_open (slice_index block 0)) (agrees.same (gate_place (other_slot root.slot)) (spare_gate root.slot free is.frames)) ∙ is.closed;
  same = same_on true root.slot free base content image is.same agrees;
  settled = settled;
}
stands_on false root free base content image loose now is agrees settled = record {
  frames = is.frames;
  has = root_on false root free content image is.frames is.has agrees;
  behind = subst (λ (block : List ℕ). IsBehind root.slot (seq_of block) (seq_of root.body))
      (sym (agrees.same (body_place (other_slot root.slot)) (spare_body root.slot free is.frames))) is.behind;
  same = same_on false root.slot free base content image is.same agrees;
  settled = settled;
}

-- what may be loose of a root that stands
pub stands_settled : (closed : Bool) (root : Root) (free : ℕ → Bool) (base content : List (List ℕ)) (loose : ℕ → Bool) → StandsBeside closed root free base content loose
    → LooseAt (loose_place closed root.slot) free loose
stands_settled true root free base content loose is = is.settled
stands_settled false root free base content loose is = is.settled

pub stands_same : (closed : Bool) (root : Root) (free : ℕ → Bool) (base content : List (List ℕ)) (loose : ℕ → Bool) → StandsBeside closed root free base content loose
    → AreFrames free × HasRoot root content × AgreesBut (besides free) base content
stands_same true root free base content loose is = (is.frames, is.has, is.same)
stands_same false root free base content loose is = (is.frames, is.has, is.same)

-- a root that stands is what its content opens to
pub stands_opens : (closed : Bool) (root : Root) (free : ℕ → Bool) (base content : List (List ℕ)) (loose : ℕ → Bool) → StandsBeside closed root free base content loose
    → OpensTo root free base content
stands_opens true root free base content loose is = record {
  opens = root_of_slot content root (slot_alone content root.slot is.has.gate is.closed) is.has.body;
  same = is.same;
}
stands_opens false root free base content loose is = record {
  opens = root_of_slot content root
      (slot_before content root.slot is.has.gate
      (subst (λ (block : List ℕ). IsBehind root.slot (seq_of (body_at content (other_slot root.slot))) (seq_of block)) (sym is.has.body) is.behind))
      is.has.body;
  same = is.same;
}

-- a write of what may be loose keeps the root
pub stands_wrote : (closed : Bool) (root : Root) (free : ℕ → Bool) (base content after : List (List ℕ)) (loose now : ℕ → Bool) (at : ℕ) → StandsBeside closed root free base content loose
    → with_loose (loose_place closed root.slot) free at ≡ true → AgreesBut (λ other. other == at) content after → IsLooseWithin (with_loose at loose) now
    → StandsBeside closed root free base after now
stands_wrote closed root free base content after loose now at is may agrees within =
    let some = with_loose (loose_place closed root.slot) free in
    stands_on closed root free base content after loose now is (wrote_within some at content after may agrees)
    (λ other out. within other (loose_within some loose at may (stands_settled closed root free base content loose is) other out))

-- and each image meanwhile opens to it
pub stands_meanwhile : (closed : Bool) (root : Root) (free : ℕ → Bool) (base content image : List (List ℕ)) (loose : ℕ → Bool) (at : ℕ) → StandsBeside closed root free base content loose
    → with_loose (loose_place closed root.slot) free at ≡ true → AgreesBut (with_loose at loose) content image → OpensTo root free base image
stands_meanwhile closed root free base content image loose at is may agrees =
    let some = with_loose (loose_place closed root.slot) free in
    let settled = stands_settled closed root free base content loose is in
    stands_opens closed root free base image loose
    (stands_on closed root free base content image loose loose is
    (agrees_less some (with_loose at loose) content image (loose_within some loose at may settled) agrees) settled)

pub standing_opens : StandingOpens
standing_opens closed root free base content image loose is agrees =
    let some = with_loose (loose_place closed root.slot) free in
    let settled = stands_settled closed root free base content loose is in
    stands_opens closed root free base image loose
    (stands_on closed root free base content image loose loose is (agrees_less some loose content image settled agrees) settled)

-- the same content, with no more loose
pub stands_settling : (closed : Bool) (root : Root) (free : ℕ → Bool) (base content after : List (List ℕ)) (loose now : ℕ → Bool) → StandsBeside closed root free base content loose
    → after ≡ content → IsLooseWithin loose now → StandsBeside closed root free base after now
stands_settling closed root free base content after loose now is same within =
    let some = with_loose (loose_place closed root.slot) free in
    subst (λ (blocks : List (List ℕ)). StandsBeside closed root free base blocks now) (sym same)
    (stands_on closed root free base content content loose now is (agrees_itself some content)
    (λ other out. within other (stands_settled closed root free base content loose is other out)))

-- a root that stands does so alone once its spare gate is closed and nothing is loose
pub stands_alone : (closed : Bool) (root : Root) (free : ℕ → Bool) (base content : List (List ℕ)) (loose now : ℕ → Bool) → StandsBeside closed root free base content loose
    → has_open_gate content (other_slot root.slot) ≡ false → now ≡ none_loose → IsAlone root free base content now
stands_alone closed root free base content loose now is shut none =
    let parts = stands_same closed root free base content loose is in
    record {
      frames = parts.0;
      has = parts.1;
      closed = shut;
      same = parts.2;
      settled = λ other out. ap (λ (test : ℕ → Bool). test other) none;
    }

-- no free block is a fixed one where none is free
none_frames : AreFrames none_free
none_frames at fixed = refl

-- over any bytes in the gate that decides, it decides still
pub gate_on : (root : Root) (body : List ℕ) (free : ℕ → Bool) (base framed content image : List (List ℕ)) (loose now : ℕ → Bool) → IsAtGate root body free base framed content loose
    → AgreesBut (with_loose (gate_place (other_slot root.slot)) none_free) content image → LooseAt (gate_place (other_slot root.slot)) none_free now
    → IsAtGate root body free base framed image now
gate_on root body free base framed content image loose now is agrees settled =
    let place = gate_place (other_slot root.slot) in
    let wider : AgreesBut (with_loose place free) content image =
    agrees_less (with_loose place free) (with_loose place none_free) content image
    (λ other out. or_from (other == place) (none_free other) (or_parts (other == place) (free other) out).0 refl) agrees in
    record {
      frames = is.frames;
      has = root_on false root none_free content image none_frames is.has agrees;
      next = agrees.same (body_place (other_slot root.slot)) (spare_body root.slot none_free none_frames) ∙ is.next;
      greater = is.greater;
      same = same_on false root.slot free base content image is.same wider;
      written = same_on false root.slot none_free framed content image is.written agrees;
      settled = settled;
    }

-- a write of that gate keeps the doubt
pub gate_wrote : (root : Root) (body : List ℕ) (free : ℕ → Bool) (base framed content after : List (List ℕ)) (loose now : ℕ → Bool) (at : ℕ) → IsAtGate root body free base framed content loose
    → at ≡ gate_place (other_slot root.slot) → AgreesBut (λ other. other == at) content after → IsLooseWithin (with_loose at loose) now
    → IsAtGate root body free base framed after now
gate_wrote root body free base framed content after loose now at is place agrees within =
    let some = with_loose (gate_place (other_slot root.slot)) none_free in
    let may : some at ≡ true = itself_loose (gate_place (other_slot root.slot)) at none_free place in
    gate_on root body free base framed content after loose now is (wrote_within some at content after may agrees)
    (λ other out. within other (loose_within some loose at may is.settled other out))

twice_other : (at : Slot) → other_slot (other_slot at) ≡ at
twice_other slot.A = refl
twice_other slot.B = refl

-- once the gate is open and nothing is loose, the new root is ahead
pub gate_ahead : (root : Root) (body : List ℕ) (free : ℕ → Bool) (base framed content : List (List ℕ)) (loose now : ℕ → Bool) → IsAtGate root body free base framed content loose
    → has_open_gate content (other_slot root.slot) ≡ true → now ≡ none_loose → IsAhead (next_root root.slot body) none_free framed content now
gate_ahead root body free base framed content loose now is gate none =
    let back : body_at content (other_slot (other_slot root.slot)) ≡ root.body = ap (body_at content) (twice_other root.slot) ∙ is.has.body in
    record {
      frames = none_frames;
      has = record { gate = gate; body = is.next };
      behind = subst (λ (block : List ℕ). IsBehind (other_slot root.slot) (seq_of block) (seq_of body)) (sym back)
          (behind_of_less (other_slot root.slot) (seq_of root.body) (seq_of body) is.greater);
      same = is.written;
      settled = λ other out. ap (λ (test : ℕ → Bool). test other) none;
    }

-- a closed gate leaves the old root alone
gate_alone : (root : Root) (body : List ℕ) (free : ℕ → Bool) (base framed content : List (List ℕ)) (loose : ℕ → Bool) → IsAtGate root body free base framed content loose
    → has_open_gate content (other_slot root.slot) ≡ false → OpensTo root free base content
gate_alone root body free base framed content loose is gate = record {
  opens = root_of_slot content root (slot_alone content root.slot is.has.gate gate) is.has.body;
  same = is.same;
}

pub gate_tells : GateTells
gate_tells root body free base framed content loose is = (
  (λ gate. stands_opens false (next_root root.slot body) none_free framed content none_loose (gate_ahead root body free base framed content loose none_loose is gate refl)),
  (λ gate. gate_alone root body free base framed content loose is gate),
)

either_gate : (root : Root) (body : List ℕ) (free : ℕ → Bool) (base framed content : List (List ℕ)) (gate : Bool)
    → (gate ≡ true → OpensTo (next_root root.slot body) none_free framed content) → (gate ≡ false → OpensTo root free base content) → IsOldOrNew root body free base framed content
either_gate root body free base framed content true new old = inr (new refl)
either_gate root body free base framed content false new old = inl (old refl)

-- the content opens to one of the two
gate_content : (root : Root) (body : List ℕ) (free : ℕ → Bool) (base framed content : List (List ℕ)) (loose : ℕ → Bool) → IsAtGate root body free base framed content loose
    → IsOldOrNew root body free base framed content
gate_content root body free base framed content loose is =
    let tells = gate_tells root body free base framed content loose is in
    either_gate root body free base framed content (has_open_gate content (other_slot root.slot)) tells.0 tells.1

-- so does each image while the gate is written
pub gate_meanwhile : (root : Root) (body : List ℕ) (free : ℕ → Bool) (base framed content image : List (List ℕ)) (loose : ℕ → Bool) (at : ℕ) → IsAtGate root body free base framed content loose
    → at ≡ gate_place (other_slot root.slot) → AgreesBut (with_loose at loose) content image → IsOldOrNew root body free base framed image
gate_meanwhile root body free base framed content image loose at is place agrees =
    let some = with_loose (gate_place (other_slot root.slot)) none_free in
    let may : some at ≡ true = itself_loose (gate_place (other_slot root.slot)) at none_free place in
    gate_content root body free base framed image loose
    (gate_on root body free base framed content image loose loose is
    (agrees_less some (with_loose at loose) content image (loose_within some loose at may is.settled) agrees) is.settled)

pub gate_decides : GateDecides
gate_decides root body free base framed content image loose is agrees =
    let some = with_loose (gate_place (other_slot root.slot)) none_free in
    gate_content root body free base framed image loose
    (gate_on root body free base framed content image loose loose is (agrees_less some loose content image is.settled agrees) is.settled)

-- after the body was written and nothing is loose, the gate decides
pub body_written : (root : Root) (body : List ℕ) (free : ℕ → Bool) (base framed content after : List (List ℕ)) (loose now : ℕ → Bool) (at : ℕ) → IsReady root body free base framed content loose
    → at ≡ body_place (other_slot root.slot) → AgreesBut (λ other. other == at) content after → block_at after at ≡ body → now ≡ none_loose
    → IsAtGate root body free base framed after now
body_written root body free base framed content after loose now at ready place agrees there none =
    let is = ready.alone in
    let alone : AgreesBut (with_loose (body_place (other_slot root.slot)) none_free) content after =
    wrote_within (with_loose (body_place (other_slot root.slot)) none_free) at content after (itself_loose (body_place (other_slot root.slot)) at none_free place) agrees in
    let wider : AgreesBut (with_loose (body_place (other_slot root.slot)) free) content after =
    wrote_within (with_loose (body_place (other_slot root.slot)) free) at content after (itself_loose (body_place (other_slot root.slot)) at free place) agrees in
    record {
      frames = is.frames;
      has = root_on true root free content after is.frames is.has wider;
      next = ap (block_at after) (sym place) ∙ there;
      greater = ready.greater;
      same = same_on true root.slot free base content after is.same wider;
      written = same_on true root.slot none_free framed content after ready.written alone;
      settled = λ other out. ap (λ (test : ℕ → Bool). test other) none;
    }

-- a doubt over other blocks with the same frames
pub gate_framed : (root : Root) (body : List ℕ) (free : ℕ → Bool) (base framed : List (List ℕ)) (content : List (List ℕ)) (loose : ℕ → Bool) (more : List (List ℕ))
    → AgreesBut (besides none_free) more framed → IsAtGate root body free base framed content loose → IsAtGate root body free base more content loose
gate_framed root body free base framed content loose more agrees is = record {
  frames = is.frames;
  has = is.has;
  next = is.next;
  greater = is.greater;
  same = is.same;
  written = agrees_on (besides none_free) more framed content agrees is.written;
  settled = is.settled;
}

-- no more is loose with more free frames
wider_settled : (place : ℕ) (free more loose : ℕ → Bool) → IsLooseWithin more free → LooseAt place free loose → LooseAt place more loose
wider_settled place free more loose within settled = λ other out.
    let parts = or_parts (other == place) (more other) out in
    settled other (or_from (other == place) (free other) parts.0 (within other parts.1))

pub standing_rebased : StandingRebased
standing_rebased true root free base content loose is = record { frames = is.frames; has = is.has; closed = is.closed; same = agrees_itself (besides free) content; settled = is.settled }
standing_rebased false root free base content loose is = record { frames = is.frames; has = is.has; behind = is.behind; same = agrees_itself (besides free) content; settled = is.settled }

pub standing_wider : StandingWider
standing_wider true root free more base content loose is frames within = record {
  frames = frames;
  has = is.has;
  closed = is.closed;
  same = agrees_itself (besides more) content;
  settled = wider_settled (body_place (other_slot root.slot)) free more loose within is.settled;
}
standing_wider false root free more base content loose is frames within = record {
  frames = frames;
  has = is.has;
  behind = is.behind;
  same = agrees_itself (besides more) content;
  settled = wider_settled (gate_place (other_slot root.slot)) free more loose within is.settled;
}

pub gate_rebased : GateRebased
gate_rebased root body free base framed content loose is = record {
  frames = is.frames;
  has = is.has;
  next = is.next;
  greater = is.greater;
  same = agrees_itself (besides free) content;
  written = agrees_itself (besides none_free) content;
  settled = is.settled;
}

found_beside : (gate : Bool) (root : Root) (free : ℕ → Bool) (content : List (List ℕ)) (loose : ℕ → Bool) → has_open_gate content (other_slot root.slot) ≡ gate → root_in content ≡ Some root
    → AreFrames free → loose ≡ none_loose → StandsBeside (not gate) root free content content loose
found_beside true root free content loose gate is frames none =
    let says = root_says content root is in
    record {
      frames = frames;
      has = record { gate = slot_is_open content root.slot says.0; body = says.1 };
      behind = subst (λ (block : List ℕ). IsBehind root.slot (seq_of (body_at content (other_slot root.slot))) (seq_of block)) says.1 (other_is_behind content root.slot says.0 gate);
      same = agrees_itself (besides free) content;
      settled = λ other out. ap (λ (test : ℕ → Bool). test other) none;
    }
found_beside false root free content loose gate is frames none =
    let says = root_says content root is in
    record {
      frames = frames;
      has = record { gate = slot_is_open content root.slot says.0; body = says.1 };
      closed = gate;
      same = agrees_itself (besides free) content;
      settled = λ other out. ap (λ (test : ℕ → Bool). test other) none;
    }

pub found_stands : FoundStands
found_stands root free content loose is frames none = found_beside (has_open_gate content (other_slot root.slot)) root free content loose refl is frames none

-- a slot from which a standing was made
standing_of : (content : List (List ℕ)) (standing : Standing) (picked : Option Slot)
    → option_map (λ at. record { slot = at; spare_closed = not (has_open_gate content (other_slot at)) }) picked ≡ Some standing
    → (picked ≡ Some standing.slot) × (standing.spare_closed ≡ not (has_open_gate content (other_slot standing.slot)))
standing_of content standing None is = absurd (none-some standing is)
standing_of content standing (Some at) is =
    let made : Standing = record { slot = at; spare_closed = not (has_open_gate content (other_slot at)) } in
    let same : made ≡ standing = cc in
    let place : at ≡ standing.slot = ap (λ (given : Standing). given.slot) same in
    let shut : not (has_open_gate content (other_slot at)) ≡ standing.spare_closed = ap (λ (given : Standing). given.spare_closed) same in
    (ap (λ (given : Slot). Some given) place, sym shut ∙ ap (λ (given : Slot). not (has_open_gate content (other_slot given))) place)

pub standing_found : StandingFound
standing_found standing free content loose is frames none =
    let parts = standing_of content standing (slot_in content) is in
    let root : Root = record { slot = standing.slot; body = body_at content standing.slot } in
    subst (λ closed. StandsBeside closed root free content content loose) (sym parts.1)
    (found_stands root free content loose (root_of_slot content root parts.0 refl) frames none)
