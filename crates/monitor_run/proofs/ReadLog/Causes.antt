-- Why the reading of a log gave up, from one call to the next.
use Rattle.std.proofs.Common.{◌≡◌, ℕ, ◌≤◌, refl, sym, subst, arith, IsTrue}
use Rattle.std.specs.Prelude.{◌≢◌}
use Rattle.mon_base.specs.Causes.{Rose}
use Rattle.log_reader.specs.declared.fault.LogFault.{LogFault}
use Rattle.log_reader.specs.declared.fault.LogFault.TheVariants as log_fault
use Rattle.run_model.specs.Course.{is_log_fault}
use Rattle.monitor_run.specs.Opening.{HasLogCause, halt_of_record}
use Rattle.monitor_run.specs.Reading.{HasCutCause, HasReadCause}
use Rattle.run_model.specs.declared.stop.Halt.{Halt}
use Rattle.run_model.specs.declared.stop.Halt.TheVariants.{At, Lost}
use Rattle.run_model.specs.declared.stop.LogStop.{LogStop}
use Rattle.run_model.specs.declared.stop.LogStop.TheVariants.{Unopened, Unread, Whole, Fault, Long, CodesFull, NodesFull}
use Rattle.run_model.specs.declared.stop.Loss.TheVariants.{Cut, Starved}

-- a rise of later counts is one of all
pub rose_after : (a b c : ℕ) → a ≤ b → Rose b c → Rose a c
rose_after a b c h r = omega (arith, h, r)

pub rose_before : (a b c : ℕ) → b ≤ c → Rose a b → Rose a c
rose_before a b c h r = omega (arith, h, r)

pub cut_later : {S : Type 0} (a b c : ℕ) (halt : Halt S) → a ≤ b → HasCutCause (Rose b c) halt → HasCutCause (Rose a c) halt
cut_later a b c (At stop) h r = tt
cut_later a b c (Lost Cut) h r = rose_after a b c h r
cut_later a b c (Lost Starved) h r = tt

-- no read failed
pub no_read : (rose : Type 0) (halt : Halt LogStop) → HasReadCause ⊥ halt → HasReadCause rose halt
no_read rose (At stop) (opened, r) = (opened, λ is. absurd (r is))
no_read rose (Lost loss) r = tt

-- a source's fault is one of the files, once it is closed
by_stop : (source files : Type 0) (stop : LogStop) → stop ≢ Unopened → (stop ≡ Unread → source) → (source → files) → IsTrue (is_log_fault stop) → files
by_stop source files Unopened opened read so bad = absurd (opened refl)
by_stop source files Unread opened read so bad = so (read refl)
by_stop source files Whole opened read so bad = let no : ⊥ = cc in absurd no
by_stop source files (Fault fault) opened read so bad = let no : ⊥ = cc in absurd no
by_stop source files (Long limit) opened read so bad = let no : ⊥ = cc in absurd no
by_stop source files (CodesFull event x need) opened read so bad = let no : ⊥ = cc in absurd no
by_stop source files (NodesFull event k row) opened read so bad = let no : ⊥ = cc in absurd no

pub log_cause : (source files : Type 0) (halt : Halt LogStop) → HasReadCause source halt → (source → files) → HasLogCause files halt
log_cause source files (At stop) (opened, read) so = by_stop source files stop opened read so
log_cause source files (Lost loss) r so = tt

-- a fault of a record is no fault of a file or of the output
pub record_cause : (rose : Type 0) (fault : LogFault) (halt : Halt LogStop) → halt ≡ halt_of_record fault → HasCutCause rose halt
record_cause rose fault halt is = subst (λ (h : Halt LogStop). HasCutCause rose h) (sym is) (go fault) where
  go : (f : LogFault) → HasCutCause rose (halt_of_record f)
  go log_fault.NoMemory = tt
  go (log_fault.QuoteOpen n) = tt
  go (log_fault.AfterQuote n) = tt
  go (log_fault.RecordTooLong n) = tt
  go (log_fault.TooManyFields n) = tt
  go (log_fault.EmptyName n) = tt
  go (log_fault.BadTime n) = tt
  go (log_fault.TimeBack n b m) = tt

pub record_unread : (fault : LogFault) (halt : Halt LogStop) → halt ≡ halt_of_record fault → HasReadCause ⊥ halt
record_unread fault halt is = subst (λ (h : Halt LogStop). HasReadCause ⊥ h) (sym is) (go fault) where
  go : (f : LogFault) → HasReadCause ⊥ (halt_of_record f)
  go log_fault.NoMemory = tt
  go (log_fault.QuoteOpen n) = (λ bad. let no : ⊥ = cc in no, λ bad. let no : ⊥ = cc in no)
  go (log_fault.AfterQuote n) = (λ bad. let no : ⊥ = cc in no, λ bad. let no : ⊥ = cc in no)
  go (log_fault.RecordTooLong n) = (λ bad. let no : ⊥ = cc in no, λ bad. let no : ⊥ = cc in no)
  go (log_fault.TooManyFields n) = (λ bad. let no : ⊥ = cc in no, λ bad. let no : ⊥ = cc in no)
  go (log_fault.EmptyName n) = (λ bad. let no : ⊥ = cc in no, λ bad. let no : ⊥ = cc in no)
  go (log_fault.BadTime n) = (λ bad. let no : ⊥ = cc in no, λ bad. let no : ⊥ = cc in no)
  go (log_fault.TimeBack n b m) = (λ bad. let no : ⊥ = cc in no, λ bad. let no : ⊥ = cc in no)
