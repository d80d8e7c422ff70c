use Rattle.std.proofs.Common.{◌≡◌, ℕ, List, true, refl, ◌∙◌}
use Rattle.std.specs.Prelude.{Option, None, Some}
use Rattle.casper_words.specs.declared.page.Want.{Want}
use Rattle.casper_model.specs.Acquire.{acquire, acquired_by}
use Rattle.casper_model.specs.Both.{Both}
use Rattle.casper_model.specs.Client.{Fallen}
use Rattle.casper_model.specs.Leave.{serve, served_by, depart, departed_by, absent}
use Rattle.casper_model.specs.Opening.{opened, begun, given_up, gathering_of, given_in_opening}
use Rattle.casper_model.specs.Own.{Own}
use Rattle.casper_model.specs.Shared.{Shared, fallen_at, is_live}
use Rattle.casper_model.specs.Stabilise.{stabilise, stabilised_by, kept_at}
use Rattle.casper_turns.specs.Good.{IsGoodShared, IsGoodWith}
use Rattle.casper_turns.specs.Kept.{KeptByTurn, OthersStay}
use Rattle.casper_turns.specs.StageLaws.{IsUnderWay, IsStage}
use Rattle.casper_turns.proofs.Stages.{kept_again, kept_told, kept_absent}
use Rattle.casper_turns.proofs.StageTurns.{each_stage_keeps, each_stage_goes_on}

-- what some stages of a turn kept, and that it is under way
record Under (shared : Shared) (own : Own) (after : Shared) (own_after : Own) : Type 0 where
  kept : KeptByTurn shared own after own_after
  others : OthersStay shared own after
  way : IsUnderWay after own_after

-- one stage more
one_more : (shared : Shared) (own : Own) (middle : Shared) (between : Own) (after : Shared) (own_after : Own) → Under shared own middle between
    → IsStage middle between after own_after → Under shared own after own_after
one_more shared own middle between after own_after first stage =
    let more = each_stage_keeps middle between after own_after stage first.kept.good first.kept.mine in
    record {
      kept = kept_again shared own middle between after own_after first.kept more.0;
      others = λ other apart. more.1 other (λ same. apart (same ∙ first.kept.who)) ∙ first.others other apart;
      way = each_stage_goes_on middle between after own_after stage first.kept.good first.kept.mine;
    }

module _ (shared : Shared) (own : Own) (good : IsGoodShared shared) (mine : IsGoodWith shared own) (live : is_live shared own.who ≡ true) where
  -- an opening of a client that is not fallen
  under_begun : fallen_at shared own.who ≡ None → Under shared own (begun shared own).shared (begun shared own).own
  under_begun up =
      let stage = IsStage.beginning live up in
      let kept = each_stage_keeps shared own (begun shared own).shared (begun shared own).own stage good mine in
      record { kept = kept.0; others = kept.1; way = each_stage_goes_on shared own (begun shared own).shared (begun shared own).own stage good mine }

  under_opened : fallen_at shared own.who ≡ None → Under shared own (opened shared own).shared (opened shared own).own
  under_opened up =
      let first : Both = begun shared own in
      let second : Both = given_up first in
      let one = under_begun up in
      let two = one_more shared own first.shared first.own second.shared second.own one (IsStage.giving_up one.way) in
      one_more shared own second.shared second.own (opened shared own).shared (opened shared own).own two
      (IsStage.handing_in (gathering_of second.shared second.own.who) refl two.way)

  under_acquired : (wants : List Want) (calls : ℕ) → fallen_at shared own.who ≡ None
      → Under shared own (acquired_by shared own wants calls None).shared (acquired_by shared own wants calls None).own
  under_acquired wants calls up =
      let both : Both = opened shared own in
      let before = under_opened up in
      one_more shared own both.shared both.own (acquired_by shared own wants calls None).shared (acquired_by shared own wants calls None).own before
      (IsStage.wanting (given_in_opening shared own) wants calls before.way)

  under_stabilised : fallen_at shared own.who ≡ None → Under shared own (stabilised_by shared own None).shared (stabilised_by shared own None).own
  under_stabilised up =
      let both : Both = opened shared own in
      let before = under_opened up in
      one_more shared own both.shared both.own (stabilised_by shared own None).shared (stabilised_by shared own None).own before
      (IsStage.stabilising (kept_at shared own.who) before.way)

  -- each turn of a live client, which may be fallen
  pub acquire_kept : (wants : List Want) (calls : ℕ) → KeptByTurn shared own (acquire shared own wants calls).shared (acquire shared own wants calls).own
  acquire_kept wants calls = by_fallen (fallen_at shared own.who) refl
    where
      by_fallen : (fallen : Option Fallen) → fallen_at shared own.who ≡ fallen
          → KeptByTurn shared own (acquired_by shared own wants calls fallen).shared (acquired_by shared own wants calls fallen).own
      by_fallen (Some fallen) e = kept_told shared own fallen good mine live e
      by_fallen None e = (under_acquired wants calls e).kept

  pub serve_kept : KeptByTurn shared own (serve shared own).shared (serve shared own).own
  serve_kept = by_fallen (fallen_at shared own.who) refl
    where
      by_fallen : (fallen : Option Fallen) → fallen_at shared own.who ≡ fallen → KeptByTurn shared own (served_by shared own fallen).shared (served_by shared own fallen).own
      by_fallen (Some fallen) e = kept_told shared own fallen good mine live e
      by_fallen None e = (under_opened e).kept

  pub stabilise_kept : KeptByTurn shared own (stabilise shared own).shared (stabilise shared own).own
  stabilise_kept = by_fallen (fallen_at shared own.who) refl
    where
      by_fallen : (fallen : Option Fallen) → fallen_at shared own.who ≡ fallen
          → KeptByTurn shared own (stabilised_by shared own fallen).shared (stabilised_by shared own fallen).own
      by_fallen (Some fallen) e = kept_told shared own fallen good mine live e
      by_fallen None e = (under_stabilised e).kept

  pub depart_kept : KeptByTurn shared own (depart shared own).shared (depart shared own).own
  depart_kept = by_fallen (fallen_at shared own.who) refl
    where
      by_fallen : (fallen : Option Fallen) → fallen_at shared own.who ≡ fallen
          → KeptByTurn shared own (departed_by shared own fallen).shared (departed_by shared own fallen).own
      by_fallen (Some fallen) e = kept_told shared own fallen good mine live e
      by_fallen None e =
          let both : Both = opened shared own in
          let first = (under_opened e).kept in
          kept_again shared own both.shared both.own (absent both).shared (absent both).own first (kept_absent both.shared both.own first.good first.mine.client)
