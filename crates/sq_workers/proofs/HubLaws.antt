-- From what a call of the desk adds to the shares to what a hub counts.
use Rattle.std.proofs.Common.{◌≡◌, ℕ, ◌+◌, ◌≤◌, min, Result, Ok, Err, ap, arith}
use Rattle.sq_outside.specs.Causes.{Rose, count_limit, raised}
use Rattle.sq_calls.specs.declared.faults.DeskFault.{DeskFault}
use Rattle.sq_calls.specs.declared.faults.DeskFault.TheVariants as fault
use Rattle.sq_shared.specs.Books.{SharesMade, SharesRefusal}
use Rattle.sq_turns.specs.Hubs.{HubFails, HubRefuses, asked_by, granted_by}
use Rattle.sq_workers.specs.HubFaults.{hub_gave}

rose : (a b : ℕ) → b ≡ a + 1 → Rose (min a count_limit) (min b count_limit)
rose a b e = grind arith

rises : (a b : ℕ) → b ≡ a + 1 → min a count_limit ≤ min b count_limit
rises a b e = grind arith

stays : (a b : ℕ) → b ≡ a → min a count_limit ≤ min b count_limit
stays a b e = grind arith

-- a refusal, and a journal that failed, raised the share
pub hub_refuses : {A : Type 0} (a b : ℕ) (r : Result A DeskFault) → SharesRefusal a b r
    → HubRefuses (min a count_limit) (min b count_limit) (hub_gave r)
hub_refuses a b (Ok x) s = tt
hub_refuses a b (Err fault.WantOfMemory) s = tt
hub_refuses a b (Err fault.Stopped) s = rose a b s
hub_refuses a b (Err (fault.Engine r)) s = rose a b s
hub_refuses a b (Err fault.JournalFault) s = rose a b s

pub hub_fails : {A : Type 0} (a b : ℕ) (r : Result A DeskFault) → SharesRefusal a b r
    → HubFails (min a count_limit) (min b count_limit) (hub_gave r)
hub_fails a b (Ok x) s = tt
hub_fails a b (Err fault.WantOfMemory) s = tt
hub_fails a b (Err fault.Stopped) s = rose a b s
hub_fails a b (Err (fault.Engine r)) s = tt
hub_fails a b (Err fault.JournalFault) s = rose a b s

-- the share never falls
pub share_rises : {A : Type 0} (a b : ℕ) (r : Result A DeskFault) → SharesRefusal a b r
    → min a count_limit ≤ min b count_limit
share_rises a b (Ok x) s = stays a b s
share_rises a b (Err fault.WantOfMemory) s = stays a b s
share_rises a b (Err fault.Stopped) s = rises a b s
share_rises a b (Err (fault.Engine r)) s = rises a b s
share_rises a b (Err fault.JournalFault) s = rises a b s

-- what a call leaves of the share, whether it is refused or not
pub ruleset hub_refusals = (hub_refuses, hub_fails, share_rises)

-- a question that was asked raised the share of requests
asked_one : (a b : ℕ) → b ≡ a + 1 → min b count_limit ≡ raised (min a count_limit)
asked_one a b e = grind arith

pub hub_asks : {A : Type 0} (a b : ℕ) (r : Result A DeskFault) → SharesMade a b r
    → min b count_limit ≡ asked_by (min a count_limit) (hub_gave r)
hub_asks a b (Ok x) s = asked_one a b s
hub_asks a b (Err f) s = ap (λ n. min n count_limit) s

-- bytes that were granted raised the share of grants
pub hub_grants : (a b given : ℕ) → b ≡ a + given → min b count_limit ≡ granted_by (min a count_limit) given
hub_grants a b given e = grind arith

-- where nothing was granted it stays
pub hub_grants_none : (a : ℕ) → min a count_limit ≡ granted_by (min a count_limit) 0
hub_grants_none a = grind arith

-- what a grant leaves of the share
pub ruleset hub_granted = (hub_grants, hub_grants_none)
