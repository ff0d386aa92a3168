-- What each call does to a level.
use Rattle.std.specs.Prelude.{◌≡◌, ℕ, ◌+◌, Bool, true, false, cond, ◌⊎◌, ℤ, pos, ◌+ℤ◌, Some, None, Option, ◌==◌, ◌≢◌}
use Rattle.spare.specs.Chosen.{Chosen, Within}
use Rattle.level.specs.declared.ticked.Letter.{Letter}
use Rattle.level.specs.declared.ticked.Letter.TheVariants.{Constrained, Reserved, Spare, Idle}
use Rattle.level.specs.declared.ticked.Ticked.{Ticked}
use Rattle.level.specs.declared.ticket.Ticket.{Ticket}
use Rattle.level.specs.Ticks.{one, is, Marking}
use Rattle.level.specs.Meaning.{Constraint, Meaning, to_wake, to_block, to_begin, to_end, to_leave, to_collect, to_used, to_tick, Event, woke, blocked, began, ended, left, collected, told, ticked, refused, call_of}
pub use Rattle.level.specs.Held.{with_ticket, one_more_run}
use Rattle.level.specs.Refusals.{available, own, Sound, Refused}

-- what no call changes
pub record Kept (m n : Meaning) : Type 0 where
  pub number : n.number ≡ m.number
  pub owner : n.owner ≡ m.owner
  pub cycle : n.cycle ≡ m.cycle
  pub patience : n.rule.patience ≡ m.rule.patience

-- an accepted wake or block
pub record Switched (to : Bool) (m : Meaning) (a : ℕ) (n : Meaning) : Type 0 where
  pub kept : Kept m n
  pub ready : (b : ℕ) → n.ready b ≡ cond (b == a) to (m.ready b)
  pub clock : n.clock ≡ m.clock
  pub seats : n.seats ≡ m.seats
  pub marks : n.marks ≡ m.marks
  pub used : n.used ≡ m.used
  pub rule : n.rule ≡ m.rule

-- one seat's record changes and the others keep theirs
pub record Reseated (m : Meaning) (s : ℕ) (to : Option Constraint) (n : Meaning) : Type 0 where
  pub seat : n.seats s ≡ to
  pub others : (k : ℕ) → (k ≢ s) → n.seats k ≡ m.seats k

-- what the calls of tickets leave
pub record Beside (m n : Meaning) : Type 0 where
  pub kept : Kept m n
  pub clock : n.clock ≡ m.clock
  pub ready : n.ready ≡ m.ready
  pub used : n.used ≡ m.used
  pub rule : n.rule ≡ m.rule

-- an accepted begin: as many available ticks as estimated are marked, own ones first, each earliest first
pub record Began (m : Meaning) (s a : ℕ) (t : ℤ) (e : ℕ) (d : ℤ) (x : Ticket) (n : Meaning) : Type 0 where
  pub beside : Beside m n
  pub ticket : x ≡ record { level = m.number; seat = s }
  pub seat : Reseated m s (Some (record { activity = a; start = t; deadline = d; estimate = e; ran = 0; out = true })) n
  pub chosen : ℤ → Bool
  pub choice : Marking (available m a) (own m a) t d e chosen
  pub marks : (u : ℤ) → n.marks u ≡ cond (chosen u) (Some s) (m.marks u)

-- an accepted end: the answer is what the constraint has run, and its marks still to come go
pub record Ended (m : Meaning) (x : Ticket) (ran : ℕ) (n : Meaning) : Type 0 where
  pub beside : Beside m n
  pub was : Constraint
  pub at : m.seats x.seat ≡ Some was
  pub told : ran ≡ was.ran
  pub seat : Reseated m x.seat None n
  pub gone : (u : ℤ) → m.marks u ≡ Some x.seat → n.marks u ≡ None
  pub others : (u : ℤ) → (m.marks u ≢ Some x.seat) → n.marks u ≡ m.marks u

-- an accepted leave or collect: the ticket goes to the level, or out again
pub record Handed (m : Meaning) (s : ℕ) (out : Bool) (n : Meaning) : Type 0 where
  pub beside : Beside m n
  pub was : Constraint
  pub at : m.seats s ≡ Some was
  pub seat : Reseated m s (Some (with_ticket out was)) n
  pub marks : n.marks ≡ m.marks

-- Who runs the tick at the clock.

-- it is marked, and the seat's activity is ready
pub record ByMark (m : Meaning) (s a : ℕ) : Type 0 where
  pub mark : m.marks m.clock ≡ Some s
  pub held : Constraint
  pub seat : m.seats s ≡ Some held
  pub activity : a ≡ held.activity
  pub ready : m.ready a ≡ true

-- it has no mark, and its owner is ready
pub record ByOwner (m : Meaning) (a : ℕ) : Type 0 where
  pub unmarked : m.marks m.clock ≡ None
  pub owner : m.owner m.clock ≡ Some a
  pub ready : m.ready a ≡ true

-- neither
pub record ByNeither (m : Meaning) : Type 0 where
  pub unmarked : (s : ℕ) (h : Constraint) → m.marks m.clock ≡ Some s → m.seats s ≡ Some h → m.ready h.activity ≡ false
  pub unowned : m.marks m.clock ≡ None → (a : ℕ) → m.owner m.clock ≡ Some a → m.ready a ≡ false

-- the rule, told all that are ready, names one of them: the interface's own clause, and its law afterwards
pub record ByRule (m : Meaning) (a : ℕ) (n : Meaning) : Type 0 where
  pub neither : ByNeither m
  pub named : Chosen m.ready m.rule.distance m.rule.patience (Some a) n.rule.distance n.rule.patience
  pub within : Within n.rule.distance n.rule.patience

-- nobody is ready
abbrev pub AllBlocked : Meaning → Type 0
AllBlocked m = (a : ℕ) → m.ready a ≡ false

-- by which letter the tick at m's clock goes to a runner, and what that does to the seats and to the rule
abbrev pub By : Meaning → Letter → Option ℕ → Meaning → Type 0
By m (Constrained s) None n = ⊥
By m (Constrained s) (Some a) n = (b : ByMark m s a) × Reseated m s (Some (one_more_run b.held)) n × (n.rule ≡ m.rule)
By m Reserved None n = ⊥
By m Reserved (Some a) n = ByOwner m a × (n.seats ≡ m.seats) × (n.rule ≡ m.rule)
By m Spare None n = ⊥
By m Spare (Some a) n = ByRule m a n × (n.seats ≡ m.seats)
By m Idle None n = AllBlocked m × (n.seats ≡ m.seats) × (n.rule ≡ m.rule)
By m Idle (Some a) n = ⊥

-- an accepted tick
pub record Tick (m : Meaning) (e : Ticked) (n : Meaning) : Type 0 where
  pub kept : Kept m n
  pub tick : e.tick ≡ m.clock
  pub clock : n.clock ≡ m.clock +ℤ pos 1
  pub ready : n.ready ≡ m.ready
  pub spent : n.marks m.clock ≡ None
  pub others : (u : ℤ) → (u ≢ m.clock) → n.marks u ≡ m.marks u
  pub used : (a : ℕ) → n.used a ≡ one (is a e.runner) + m.used a
  pub by : By m e.letter e.runner n

-- what a call does: where nothing is wrong with it, what it is for; else it is refused
abbrev pub Step : Meaning → Event → Meaning → Type 0
Step m (woke a) n = Sound m (to_wake a) × Switched true m a n
Step m (blocked a) n = Sound m (to_block a) × Switched false m a n
Step m (began s a t e d x) n = Sound m (to_begin s a t e d) × Began m s a t e d x n
Step m (ended x ran) n = Sound m (to_end x) × Ended m x ran n
Step m (left x) n = Sound m (to_leave x) × Handed m x.seat false n
Step m (collected s x) n = Sound m (to_collect s) × Handed m s true n × (x ≡ record { level = m.number; seat = s })
Step m (told a u) n = Sound m (to_used a) × (u ≡ m.used a) × (n ≡ m)
Step m (ticked e) n = Sound m to_tick × Tick m e n
Step m (refused q r) n = Refused m q r n

-- two events are the same, or both are a spare tick of the same number, which the rule may give to one or another
abbrev pub Alike : Event → Event → Type 0
Alike e f =
    (f ≡ e)
    ⊎ ((t : ℤ) × (a : ℕ) × (b : ℕ)
    × (e ≡ ticked (record { tick = t; runner = Some a; letter = Spare }))
    × (f ≡ ticked (record { tick = t; runner = Some b; letter = Spare })))

-- two levels of which every part but the rule's distances is the same
pub record SameLevel (n o : Meaning) : Type 0 where
  pub number : o.number ≡ n.number
  pub clock : o.clock ≡ n.clock
  pub owner : o.owner ≡ n.owner
  pub cycle : o.cycle ≡ n.cycle
  pub ready : (a : ℕ) → o.ready a ≡ n.ready a
  pub seats : (s : ℕ) → o.seats s ≡ n.seats s
  pub marks : (t : ℤ) → o.marks t ≡ n.marks t
  pub used : (a : ℕ) → o.used a ≡ n.used a
  pub patience : o.rule.patience ≡ n.rule.patience

-- a call has no other answer: it is refused exactly where it must be, and where the rule leaves no choice its answer is the one there is;
-- and with the same answer it leaves the same level
abbrev pub Only : Meaning → Event → Meaning → Type 0
Only m e n = (f : Event) (o : Meaning) → Step m f o → call_of f ≡ call_of e → Alike e f × (f ≡ e → SameLevel n o)
