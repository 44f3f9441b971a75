use Rattle.channels.proofs.Computed as computed
use Rattle.channels.proofs.InRange.{e_in_range, loop_in_range, delayed_in_range, fir_in_range}
use Rattle.channels.proofs.Loops.{loop_refused}
use Rattle.channels.proofs.Sources.{e_first, e_second, e_outputs}
use Rattle.channels.proofs.Stepped.{e_steps}
use Rattle.channels.proofs.Steps.{e_puts_out}
use Rattle.channels.proofs.worked.worked_results.Goals as goal

pub returns : goal.returns
returns c =
    record {
      in_range = (e_in_range, loop_in_range, fir_in_range);
      e_read = computed.e_read;
      e_written = computed.e_written;
      e_first = e_first;
      e_second = e_second;
      e_outputs = e_outputs;
      e_settles = computed.e_settles;
      e_factor = computed.e_factor;
      e_lags = computed.e_lags;
      e_latency = computed.e_latency;
      e_systolic = computed.e_systolic;
      e_program = computed.e_program;
      e_listed = computed.e_listed;
      e_array = e_puts_out;
      e_steps = e_steps;
      e_shifts = computed.e_shifts;
      e_slow = computed.e_slow;
      e_slower = computed.e_slower;
      e_furthest = computed.e_furthest;
      e_further = computed.e_further;
      e_long_shifts = computed.e_long_shifts;
      e_back = computed.e_back;
      e_factors = computed.e_factors;
      e_slow_twice = computed.e_slow_twice;
      delayed_in_range = delayed_in_range;
      delayed_slow = computed.delayed_slow;
      e_times = computed.e_times;
      loop_written = computed.loop_written;
      loop_cycle = computed.loop_cycle;
      loop_refused = loop_refused;
      loop_printed = computed.loop_printed;
      fir_written = computed.fir_written;
      fir_lags = computed.fir_lags;
      fir_nodes = computed.fir_nodes;
      fir_inputs = computed.fir_inputs;
      fir_latency = computed.fir_latency;
    }
