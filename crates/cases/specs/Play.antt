-- A list of calls, played on lent bytes: what each answers and shows.
use Rattle.std.specs.Prelude.{ℕ, ◌+◌, ◌*◌, List, [], ◌∷◌, ◌++◌, map, length, get_or, replicate}
use Rattle.rules.specs.declared.Reply.{Reply}
use Rattle.rules.specs.declared.Params.{Params}
use Rattle.rules.specs.Answers.{reply_of}
use Rattle.rules.specs.Lent.{Lent, lent_of, size_of, last_of, closed_of, first_number_of, logged_of, stamp_of, dirty_of, entry_of, order_of, online_of}
use Rattle.word.specs.Word.{num, put}
use Rattle.record.specs.Rows.{rows, joined, table, keep, any}
use Rattle.record.specs.Record.{number_of, is_length, well_formed, changed, change, apply, applied, row_of, numbered, entered, number_rows, lesser, smallest, greatest, share_byte, free}
use Rattle.order.specs.Order.{named, without, touched, victim, frame_from, frame_for}
use Rattle.rules.specs.Sound.{every, pairs, up_to, zeros, is_page_size, in_range, exact_lengths, s1_parameters, s2_lengths, s3_logged, s3_counts, s4_entries, serving, times, s5_frame_once, s6_order, s7_log_records, s7_online_records, owning, s8_owners, s9_number_once, same, s10_in_log, s11_above_stamp, s12_dirty, apart, s13_apart, s14_log_zero, s14_online_zero, s14_order_zero, s15_stamps, s16_logged, s17_s19_dirty, s18_first, s20_live, sound_durable, sound_lost, sound}
use Rattle.rules.specs.Steps.{begun, placed, rebuilt, fetched_entries, fetched_pool, read_tables, read_step, read_bytes, update_tables, updated, committing, frames_freed, judged_anew, aborted, evicted, due, from_frame, compacted_page, compacted_entry, compacted_order, compacted, compact_step, lowered, dropped_by, closed, after_pages, checkpointed, entering, evicted_all, restarted, stamped, formatted}
use Rattle.rules.specs.Calls.{Outcome, refuse_if, verdict_of, begin_refusals, judge_begin, begin_call, clashes, read_refusals, judge_read, read_call, update_refusals, judge_update, update_call, commit_refusals, judge_commit, commit_call, abort_refusals, judge_abort, abort_call, evict_refusals, judge_evict, evict_call, compact_refusals, judge_compact, compact_call, judge_close, close_call, checkpoint_refusals, judge_checkpoint, checkpoint_call, judge_restart, restart_call, judge_format, format_call}

-- a call, a power loss, or a look at something of the store. A read is lent a buffer of 99s, which no case expects to be read, one longer than it asks for
pub data Act : Type 0 where
  Begin Commit Abort Evict : ℕ → Act
  Read : ℕ → ℕ → ℕ → ℕ → Act
  Update : ℕ → ℕ → ℕ → ℕ → ℕ → ℕ → Act
  Compact : ℕ → ℕ → ℕ → Act
  Checkpoint : ℕ → ℕ → Act
  Close Restart Loss : Act
  Format : Params → ℕ → Act
  Stored : ℕ → ℕ → Act
  Last Closed Logged Online Order Tables Rows : Act
  Stamp Dirty Entry : ℕ → Act

-- code, note, page reads, page writes, log writes
answer_of : Reply → List ℕ
answer_of r = r.code ∷ r.note ∷ r.reads ∷ r.writes ∷ r.logs ∷ []

record Seen : Type 0 where
  lent : Lent
  shown : List ℕ

after : Outcome → Seen
unfolding answer_of
after o = record { lent = o.lent; shown = answer_of (reply_of o.answer) ++ o.buffer }

looked : Lent → List ℕ → Seen
looked s l = record { lent = s; shown = l }

-- the lost part holds anything after a loss: here each area is filled with 7
lost : Lent → Lent
lost s = lent_of s.durable.fixed s.durable.marks s.durable.log s.durable.stored (replicate (length s.lost.tables) 7) (replicate (length s.lost.online) 7) (replicate (length s.lost.pool) 7)

step : Lent → Act → Seen
unfolding after looked lost
step s (Begin x) = after (begin_call s x)
step s (Commit x) = after (commit_call s x)
step s (Abort x) = after (abort_call s x)
step s (Evict p) = after (evict_call s p)
step s (Read x p o w) = after (read_call s (replicate (w + 1) 99) x p o w)
step s (Update x p o w k v) = after (update_call s x p o w k v)
step s (Compact p a b) = after (compact_call s p a b)
step s (Checkpoint a b) = after (checkpoint_call s a b)
step s Close = after (close_call s)
step s Restart = after (restart_call s)
step s Loss = looked (lost s) []
step s (Format g last) = after (format_call s g last)
step s (Stored p o) = looked s (get_or s.durable.stored (p * size_of s + o) 0 ∷ [])
step s Last = looked s (last_of s ∷ [])
step s Closed = looked s (closed_of s ∷ [])
step s Logged = looked s (first_number_of s ∷ logged_of s ∷ [])
step s Online = looked s (map number_of (online_of s))
step s Order = looked s (order_of s)
step s Tables = looked s s.lost.tables
step s Rows = looked s s.lost.online
step s (Stamp p) = looked s (stamp_of s p ∷ [])
step s (Dirty p) = looked s (dirty_of s p ∷ [])
step s (Entry p) = looked s (entry_of s p ∷ [])

-- what each event shows, in turn
unfoldable pub play : Lent → List Act → List (List ℕ)
unfolding step refuse_if verdict_of num put rows joined table keep any is_length well_formed changed change apply applied row_of numbered entered number_rows lesser smallest greatest share_byte free named without touched victim frame_from frame_for every pairs up_to zeros is_page_size in_range exact_lengths s1_parameters s2_lengths s3_logged s3_counts s4_entries serving times s5_frame_once s6_order s7_log_records s7_online_records owning s8_owners s9_number_once same s10_in_log s11_above_stamp s12_dirty apart s13_apart s14_log_zero s14_online_zero s14_order_zero s15_stamps s16_logged s17_s19_dirty s18_first s20_live sound_durable sound_lost sound begun placed rebuilt fetched_entries fetched_pool read_tables read_step read_bytes update_tables updated committing frames_freed judged_anew aborted evicted due from_frame compacted_page compacted_entry compacted_order compacted compact_step lowered dropped_by closed after_pages checkpointed entering evicted_all restarted stamped formatted judge_begin begin_call clashes judge_read read_call judge_update update_call judge_commit commit_call judge_abort abort_call judge_evict evict_call judge_compact compact_call judge_close close_call judge_checkpoint checkpoint_call judge_restart restart_call judge_format format_call begin_refusals read_refusals update_refusals commit_refusals abort_refusals evict_refusals compact_refusals checkpoint_refusals
play s [] = []
play s (e ∷ es) = (step s e).shown ∷ play (step s e).lent es
