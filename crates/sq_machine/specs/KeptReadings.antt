-- In the statement: docs/STATEMENT.md lists which definitions.
-- The cached replies of an epoch's class, as a history leaves them (configuration reference,
-- `external_acl_type`, options `cache=`, `ttl=`, `negative_ttl=`).
use Rattle.std.specs.Prelude.{ℕ, suc, List, [], ◌∷◌, Bool, false, not, ◌&&◌, ◌==◌, if◌then◌else◌, is_some, position, Some, None}
use Rattle.std.specs.Option.{option_and_then, option_map_or}
use Rattle.std.specs.declared.option.Option.{Option}
use Rattle.sq_base.specs.declared.helpers.Answer.{Answer}
use Rattle.sq_base.specs.declared.helpers.What.{What}
use Rattle.sq_machine.specs.declared.entries.Event.{Event}
use Rattle.sq_machine.specs.declared.entries.Event.TheVariants.{Step, Line, Reconfigure}
use Rattle.sq_machine.specs.declared.entries.Told.{Told}
use Rattle.sq_machine.specs.declared.entries.Told.TheVariants as told
use Rattle.sq_rules.specs.Classes.{Class}
use Rattle.sq_rules.specs.Configurations.{Configuration}
use Rattle.sq_machine.specs.Epochs.{class_at, config_of}
use Rattle.sq_rules.specs.AlikeClasses.{is_alike}
use Rattle.sq_machine.specs.KeptLists.{CachedReplies, is_fault, keep, to_front}
use Rattle.sq_machine.specs.DueActs.{ClassId}
use Rattle.sq_machine.specs.Marks.{Marked, Past, Put, entries}
use Rattle.sq_machine.specs.Questions.{put_of, said_by}
use Rattle.sq_machine.specs.Readings.{current}
use Rattle.sq_machine.specs.FarmReadings.{is_put_for}
use Rattle.sq_machine.specs.Checks.{ask_of}

-- the place of the class of an epoch that is alike to this one
abbrev pub alike_place : List Configuration → ℕ → Option Class → Option ℕ
alike_place configs e None = None
alike_place configs e (Some class) = option_and_then
    (λ config. position (λ other. is_alike other class) config.classes) (config_of configs e)

-- a check of this epoch took a verdict of this class that was kept: its key goes to the front
abbrev pub after_took : Bool → ℕ → Option Answer → CachedReplies → CachedReplies
after_took here c None kept = kept
after_took here c (Some a) kept = if here && (a.class == c)
    && not (is_fault a.what) then to_front a.key kept else kept

-- the cached replies with one more, unless it is a fault
abbrev pub keep_what : Class → ℕ → List ℕ → ℕ → What → CachedReplies → CachedReplies
keep_what class q key date w kept = if is_fault w then kept
    else keep class.cache class key (record { what = w; question = q; date = date }) kept

-- the key of a question that was put for this epoch and class
abbrev pub key_here : ℕ → ℕ → Option Put → Option (List ℕ)
key_here e c None = None
key_here e c (Some p) = if is_put_for e c (Some p) then Some p.key else None

-- the same, where class, key and reply are known
abbrev pub keep_reply : Option Class → ℕ → Option (List ℕ) → ℕ → Option What → CachedReplies
    → CachedReplies
keep_reply (Some class) q (Some key) date (Some w) kept = keep_what class q key date w kept
keep_reply class q key date w kept = kept

-- a line that is a reply, at its moment
abbrev pub after_line : List Configuration → Past → ClassId → ℕ → List ℕ → ℕ → Told → CachedReplies
    → CachedReplies
after_line configs m here k bytes date (told.Reply q w) kept =
    keep_reply (class_at configs here.epoch here.class) q
    (key_here here.epoch here.class (put_of m q)) date (said_by configs m k bytes) kept
after_line configs m here k bytes date answer kept = kept

-- a new epoch begins with what was kept of classes that are alike, and their lists of the epoch
-- before are empty from there
abbrev pub after_reconfigure : List Configuration → (ℕ → CachedReplies) → ℕ → ℕ → ℕ → CachedReplies
    → CachedReplies
after_reconfigure configs before now e c kept =
    if e == suc now then option_map_or before (alike_place configs now (class_at configs e c)) []
    else (if (e == now) && is_some (alike_place configs (suc now) (class_at configs e c)) then []
    else kept)

-- what an entry leaves of the class there, by its event
abbrev pub kept_after : List Configuration → Past → (ℕ → CachedReplies) → ClassId → Event → Marked
    → CachedReplies → CachedReplies
kept_after configs m before here (Step n) x kept =
    after_took (option_map_or (λ a. a.epoch == here.epoch) (ask_of (entries m) n) false) here.class
    x.took kept
kept_after configs m before here (Line k bytes) x kept =
    after_line configs m here k bytes x.entry.moment x.entry.answer kept
kept_after configs m before here (Reconfigure text) x kept =
    after_reconfigure configs before (current (entries m)) here.epoch here.class kept
kept_after configs m before here event x kept = kept

-- what is kept of the class at a place of an epoch's configuration, the newest use first
abbrev pub kept : List Configuration → Past → ℕ → ℕ → CachedReplies
kept configs [] e c = []
kept configs (x ∷ m) e c =
    kept_after configs m (kept configs m (current (entries m))) (record { epoch = e; class = c })
    x.entry.event x (kept configs m e c)
