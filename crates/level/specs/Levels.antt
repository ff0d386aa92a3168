-- What the code's level means, which events its calls are, and what their contracts say.
use Rattle.std.specs.Prelude.{◌≡◌, ℕ, Bool, cond, not, ◌&&◌, ℤ, pos, ◌+ℤ◌, None, Ok, Err, Option, Result, int_lt, slice_index}
use Rattle.timetable.specs.declared.table.Timetable.{Ghosts as Timetables}
use Rattle.spare.specs.declared.rule.SpareRule.{Ghosts as SpareRules}
use Rattle.spare.specs.Asking.{CallOf}
use Rattle.spare.specs.Sets.{is_ready}
use Rattle.level.specs.declared.level.Level.{Level}
use Rattle.level.specs.declared.ticked.Letter.{Letter}
use Rattle.level.specs.declared.ticked.Letter.TheVariants.{Constrained, Reserved, Spare, Idle}
use Rattle.level.specs.declared.ticked.Ticked.{Ticked}
use Rattle.level.specs.declared.refusal.Refusal.{Refusal}
use Rattle.level.specs.declared.ticket.Ticket.{Ticket}
use Rattle.level.specs.Board.{holder}
pub use Rattle.level.specs.Seats.{seat_at}
use Rattle.level.specs.Meaning.{Meaning, to_wake, to_block, to_begin, to_end, to_leave, to_collect, to_used, to_tick, Event, woke, blocked, began, ended, left, collected, told, ticked, refused}
use Rattle.level.specs.Steps.{Step, Only}
use Rattle.level.specs.Together.{Opening, Opens}
use Rattle.level.specs.Promises.{Goes, Starts}

-- What a level of the code means.

-- what the board has of the ticks from the clock on, as far as it reaches
abbrev pub seen : ℤ → (ℤ → Option ℕ) → ℤ → Option ℕ
seen c f t = cond (not (int_lt t c) && int_lt t (c +ℤ pos 1024)) (f t) None

-- `ts` is what timetables of the type T mean, and `rs` what spare rules of the type R mean
abbrev pub meaning : {T R : Type 0} → Timetables T → SpareRules R → Level T R → Meaning
meaning ts rs l = record {
  number = l.inner.number;
  clock = l.inner.clock;
  owner = ts.owner l.timetable;
  cycle = ts.cycle l.timetable;
  ready = is_ready l.inner.ready;
  seats = seat_at l.inner.seats;
  marks = seen l.inner.clock (holder l.inner.board);
  used = λ a. slice_index l.inner.used a;
  rule = record { distance = rs.distance l.rule; patience = rs.patience l.rule };
}

-- the timetable of a level, and its spare rule
abbrev pub timetable_of : {T R : Type 0} → Level T R → T
timetable_of l = l.timetable

abbrev pub rule_of : {T R : Type 0} → Level T R → R
rule_of l = l.rule

-- the seat of a ticket
abbrev pub seat_of : Ticket → ℕ
seat_of x = x.seat

-- what a level is opened with
abbrev pub opening : {T R : Type 0} → Timetables T → SpareRules R → ℤ → T → R → Opening
opening ts rs clock timetable rule = record {
  clock = clock;
  owner = ts.owner timetable;
  cycle = ts.cycle timetable;
  rule = record { distance = rs.distance rule; patience = rs.patience rule };
}

-- What the contracts say.

-- of opening: the level is as it should be, and the history of all levels goes on with it
pub record Opened (number : ℕ) (o : Opening) (m : Meaning) : Type 0 where
  pub opens : Opens number o m
  pub starts : Starts number o m

-- of each call: what it does, that it has no other answer and leaves no other level, and that the history of all levels goes on with it, every level keeping all promises
pub record Called (m : Meaning) (e : Event) (n : Meaning) : Type 0 where
  pub step : Step m e n
  pub only : Only m e n
  pub goes : Goes m e n

-- of each call but a tick, also that timetable and rule are untouched
pub record Calls {T R : Type 0} (ts : Timetables T) (rs : SpareRules R) (l : Level T R) (e : Event) (k : Level T R) : Type 0 where
  pub called : Called (meaning ts rs l) e (meaning ts rs k)
  pub timetable : k.timetable ≡ l.timetable
  pub rule : k.rule ≡ l.rule

-- the rule is called once at a spare tick, with all that are ready, and at no other
abbrev pub Asked : {R : Type 0} → (R → (ℕ → Bool) → Option ℕ → R → Type 0) → (ℕ → Bool) → R → Letter → Option ℕ → R → Type 0
Asked call ready before (Constrained s) runner after = after ≡ before
Asked call ready before Reserved runner after = after ≡ before
Asked call ready before Spare runner after = call before ready runner after
Asked call ready before Idle runner after = after ≡ before

abbrev pub Asks : {R : Type 0} → (R → (ℕ → Bool) → Option ℕ → R → Type 0) → (ℕ → Bool) → R → Result Ticked Refusal → R → Type 0
Asks call ready before (Ok e) after = Asked call ready before e.letter e.runner after
Asks call ready before (Err r) after = after ≡ before

-- of a tick: whether the rule of the level was asked, and what came of it
abbrev pub AsksOnce : {T R : Type 0} → SpareRules R → Level T R → Result Ticked Refusal → Level T R → Type 0
AsksOnce rs l result k = Asks (CallOf rs) (is_ready l.inner.ready) l.rule result k.rule

-- a refusal hands the ticket back
abbrev pub TicketBack : {X : Type 0} → Ticket → Result X (Refusal × Ticket) → Type 0
TicketBack x (Ok u) = Unit {0}
TicketBack x (Err r) = r.1 ≡ x

-- The event of each call, by its answer.

abbrev pub wake_event : ℕ → Result (Unit {0}) Refusal → Event
wake_event a (Ok u) = woke a
wake_event a (Err r) = refused (to_wake a) r

abbrev pub block_event : ℕ → Result (Unit {0}) Refusal → Event
block_event a (Ok u) = blocked a
block_event a (Err r) = refused (to_block a) r

abbrev pub begin_event : ℕ → ℕ → ℤ → ℕ → ℤ → Result Ticket Refusal → Event
begin_event s a t e d (Ok x) = began s a t e d x
begin_event s a t e d (Err r) = refused (to_begin s a t e d) r

abbrev pub end_event : Ticket → Result ℕ (Refusal × Ticket) → Event
end_event x (Ok n) = ended x n
end_event x (Err r) = refused (to_end x) r.0

abbrev pub leave_event : Ticket → Result (Unit {0}) (Refusal × Ticket) → Event
leave_event x (Ok u) = left x
leave_event x (Err r) = refused (to_leave x) r.0

abbrev pub collect_event : ℕ → Result Ticket Refusal → Event
collect_event s (Ok x) = collected s x
collect_event s (Err r) = refused (to_collect s) r

abbrev pub used_event : ℕ → Result ℕ Refusal → Event
used_event a (Ok n) = told a n
used_event a (Err r) = refused (to_used a) r

abbrev pub tick_event : Result Ticked Refusal → Event
tick_event (Ok e) = ticked e
tick_event (Err r) = refused to_tick r
