-- Worked examples, as theorems about the definitions that the contracts cite. Each line can be worked out by hand.
use Rattle.std.specs.Prelude.{◌≡◌, ◌-◌, ◌^◌, true, false, List, [], ◌∷◌, replicate, Some, None}
use Rattle.kinds.specs.Answers.{granted, denied, answer}
use Rattle.openings.specs.Checks.{check_call}
use Rattle.finder.specs.Findings.{pairs, records, zero_record, find_call}
use Rattle.field.specs.Field.{p, sum_of, product_of}
use Rattle.kinds.specs.Kinds.{drill}
use Rattle.sponge.specs.Digests.{digest_of}
use Rattle.sponge.specs.Calls.{digest_call, pair_call}
use Rattle.model.specs.Calls.{Call, begin, feed, seal, root, causes}
use Rattle.model.specs.Histories.{last_record}
use Rattle.model.specs.Lots.{step, lot_after, history_of}
use Rattle.rpo.specs.Matrix.{times}
use Rattle.rpo.specs.Rows.{row_12}
use Rattle.rpo_kinds.specs.Constants.{constant_at}

-- calls of a lot of depth 1: a record for place 1, and a begin that is denied, since the station is busy
abbrev pub day : List Call
day = begin 2 1 2 ∷ begin 2 0 1 ∷ feed 2 4 ∷ feed 2 5 ∷ seal 2 ∷ []

pub record WorkedExamples : Type 0 where
  -- the field
  pub sum_to_p : sum_of (p - 1) 1 ≡ 0
  pub sum_past_a_word : sum_of (2 ^ 63) (2 ^ 63) ≡ 4294967295
  pub product_of_halves : product_of (2 ^ 32) (2 ^ 32) ≡ 4294967295
  pub product_of_minus_ones : product_of (p - 1) (p - 1) ≡ 1
  pub product_to_minus_one : product_of (2 ^ 48) (2 ^ 48) ≡ p - 1
  -- a round constant, and the matrix of RPO-128
  pub constant_of_nine_bytes : constant_at (replicate 9 255) 0 ≡ 1099511627519
  pub first_column : times row_12 (1 ∷ replicate 11 0) ≡ 7 ∷ 8 ∷ 21 ∷ 22 ∷ 6 ∷ 7 ∷ 9 ∷ 10 ∷ 13 ∷ 26 ∷ 8 ∷ 23 ∷ []
  -- digests of the drill kind
  pub digest_of_one : digest_of 1 1 drill (0 ∷ []) ≡ 5 ∷ []
  pub digest_of_a_block : digest_of 1 1 drill (4 ∷ 5 ∷ []) ≡ 14 ∷ []
  pub digest_of_a_block_and_one : digest_of 1 1 drill (1 ∷ 2 ∷ 3 ∷ []) ≡ 32 ∷ []
  -- the orders of the hashes; denied, the buffer is as it was
  pub digest_length : digest_call 1 1 drill [] (9 ∷ 9 ∷ []) ≡ (denied 4 [], 9 ∷ 9 ∷ [])
  pub digest_buffer : digest_call 1 1 drill (1 ∷ p ∷ []) (9 ∷ 9 ∷ []) ≡ (denied 10 [], 9 ∷ 9 ∷ [])
  pub digest_word : digest_call 1 1 drill (1 ∷ p ∷ []) (9 ∷ []) ≡ (denied 7 (1 ∷ []), 9 ∷ [])
  pub pair_word : pair_call 1 1 drill (1 ∷ []) (p ∷ []) (9 ∷ []) ≡ (denied 7 (1 ∷ []), 9 ∷ [])
  -- the orders of begin and feed, at w = 1 and depth 1: in each line every cause behind the one that answers is there too
  pub begin_station : answer (causes 1 1 (λ s. false) (λ s. 0) (begin 8 2 0)) ≡ denied 2 []
  pub begin_place : answer (causes 1 1 (λ s. false) (λ s. 0) (begin 7 2 0)) ≡ denied 3 []
  pub begin_length : answer (causes 1 1 (λ s. false) (λ s. 0) (begin 7 1 0)) ≡ denied 4 []
  pub begin_busy : answer (causes 1 1 (λ s. false) (λ s. 0) (begin 7 1 1)) ≡ denied 5 []
  pub feed_idle : answer (causes 1 1 (λ s. true) (λ s. 0) (feed 7 p)) ≡ denied 6 []
  pub feed_word : answer (causes 1 1 (λ s. false) (λ s. 0) (feed 7 p)) ≡ denied 7 (0 ∷ [])
  pub feed_full : answer (causes 1 1 (λ s. false) (λ s. 0) (feed 7 (p - 1))) ≡ denied 8 []
  -- a day of a lot: its last records, and its root
  pub last_of_place_1 : last_record (history_of 1 1 drill 1 day) 1 ≡ Some (4 ∷ 5 ∷ [])
  pub last_of_place_0 : last_record (history_of 1 1 drill 1 day) 0 ≡ None
  pub root_of_day : (step 1 1 drill (lot_after 1 1 drill 1 day) (root (9 ∷ []))).2 ≡ 28 ∷ []
  -- openings at the drill kind, depth 1, root 28: the record 4, 5 with path 0 is accepted at place 1, and not at place 0
  pub accepted_at_its_place : check_call 1 1 drill (28 ∷ []) 1 1 (Some (4 ∷ 5 ∷ [])) (0 ∷ []) ≡ (granted, true)
  pub not_at_another : check_call 1 1 drill (28 ∷ []) 1 0 (Some (4 ∷ 5 ∷ [])) (0 ∷ []) ≡ (granted, false)
  -- under the same root at depth 0, the two leaves pass for a record that was never sealed: a root belongs to one depth
  pub accepted_at_another_depth : check_call 1 1 drill (28 ∷ []) 0 0 (Some (0 ∷ 14 ∷ [])) [] ≡ (granted, true)
  -- against it at place 1, depth 1: other pairs at level 0, or another record with the same digest
  pub pairs_clash : find_call 1 1 drill (28 ∷ []) 1 1 (Some (4 ∷ 5 ∷ [])) (0 ∷ []) (Some (13 ∷ 0 ∷ [])) (2 ∷ []) (9 ∷ 9 ∷ 9 ∷ 9 ∷ [])
      ≡ (granted, pairs 0, 0 ∷ 14 ∷ 2 ∷ 13 ∷ [])
  pub records_clash : find_call 1 1 drill (28 ∷ []) 1 1 (Some (4 ∷ 5 ∷ [])) (0 ∷ []) (Some (14 ∷ 0 ∷ [])) (0 ∷ []) (9 ∷ 9 ∷ 9 ∷ 9 ∷ [])
      ≡ (granted, records, 9 ∷ 9 ∷ 9 ∷ 9 ∷ [])
  -- depth 0, root 0: nothing, and a record whose digest is all zeros
  pub zero_clash : find_call 1 1 drill (0 ∷ []) 0 0 None [] (Some ((p - 2) ∷ 1 ∷ [])) [] (9 ∷ 9 ∷ 9 ∷ 9 ∷ [])
      ≡ (granted, zero_record true, 9 ∷ 9 ∷ 9 ∷ 9 ∷ [])
