use Rattle.report.proofs.log_lines.put_log_fault.Goals as goal

pub returns-in-QuoteOpen-clause-err : goal.returns-in-QuoteOpen-clause-err
returns-in-QuoteOpen-clause-err g c = rw c.in-QuoteOpen.is c.put_at_record.ensures.err

pub returns-in-AfterQuote-clause-ok : goal.returns-in-AfterQuote-clause-ok
returns-in-AfterQuote-clause-ok g c = rw c.in-AfterQuote.is c.put_at_record-in-AfterQuote.ensures.ok

pub returns-in-AfterQuote-clause-err : goal.returns-in-AfterQuote-clause-err
returns-in-AfterQuote-clause-err g c = rw c.in-AfterQuote.is c.put_at_record-in-AfterQuote.ensures.err

pub returns-in-TooManyFields-clause-ok : goal.returns-in-TooManyFields-clause-ok
returns-in-TooManyFields-clause-ok g c = rw c.in-TooManyFields.is c.put_at_record-in-TooManyFields.ensures.ok

pub returns-in-TooManyFields-clause-err : goal.returns-in-TooManyFields-clause-err
returns-in-TooManyFields-clause-err g c = rw c.in-TooManyFields.is c.put_at_record-in-TooManyFields.ensures.err

pub returns-in-EmptyName-clause-ok : goal.returns-in-EmptyName-clause-ok
returns-in-EmptyName-clause-ok g c = rw c.in-EmptyName.is c.put_at_record-in-EmptyName.ensures.ok

pub returns-in-EmptyName-clause-err : goal.returns-in-EmptyName-clause-err
returns-in-EmptyName-clause-err g c = rw c.in-EmptyName.is c.put_at_record-in-EmptyName.ensures.err

pub returns-in-BadTime-clause-ok : goal.returns-in-BadTime-clause-ok
returns-in-BadTime-clause-ok g c = rw c.in-BadTime.is c.put_at_record-in-BadTime.ensures.ok

pub returns-in-BadTime-clause-err : goal.returns-in-BadTime-clause-err
returns-in-BadTime-clause-err g c = rw c.in-BadTime.is c.put_at_record-in-BadTime.ensures.err
